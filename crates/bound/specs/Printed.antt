-- RULES 17, 18: the listing of every table tells in its last line the count of that very listing, and `end`, `stopped`
-- and `table refused` come exactly where they must.
use Rattle.std.specs.Prelude.{◌≡◌, ℕ, ◌+◌, ◌≤◌, List, [], ◌∷◌, ◌++◌, length, Option}
use Rattle.fields.specs.Answer.{Answer, gives, ends, refuses}
use Rattle.fields.specs.declared.RecordNumber.{RecordNumber}
use Rattle.fields.specs.declared.Refusal.{Refusal}
use Rattle.table.specs.Held.{Held, record_of}
use Rattle.items.specs.Told.{Lent, file_of_bytes}
use Rattle.items.specs.State.{fresh_of}
use Rattle.items.specs.declared.walk.Item.{Item}
use Rattle.lines.specs.declared.line.Line.{Line}
use Rattle.lines.specs.declared.line.Line.TheVariants as line
use Rattle.lines.specs.Listing.{most_table, walk_lines, listing_of}
use Rattle.bound.specs.Listing.{most, called, reported, Whole}
use Rattle.bound.specs.Told.{Based}

-- the line that tells how a walk ended, and a count
abbrev pub Closes : Answer Item → ℕ → Line → Type 0
Closes (gives i) c x = ⊥
Closes ends c x = x ≡ line.End c
Closes (refuses r) c x = x ≡ line.Stopped r.cause c

-- the last of the lines tells how the walk ended and what was reported in all
pub record Tells (a : Answer Item) (c : ℕ) (lines : List Line) : Type 0 where
  pub before : List Line
  pub last : Line
  pub closes : Closes a c last
  pub all : lines ≡ before ++ last ∷ []

module _ (s : List ℕ) (n : RecordNumber) (look : RecordNumber → Option (List ℕ)) (room : ℕ) where
  -- a listing that comes to its end, with the same room for each item
  abbrev pub Ended : Type 0
  Ended = Whole s n look (λ k. room)

  -- what its calls report in all, and how its walk ended
  abbrev pub count_of : Ended → ℕ
  count_of w = w.count + reported s n look (λ k. room) w.last

  abbrev pub end_of : Ended → Answer Item
  end_of w = (called s n look (λ k. room) w.last).answer

-- the lines of a fresh walk tell of its listing
abbrev pub WalksTell : Type 0
WalksTell =
    (s : List ℕ) (n : RecordNumber) (look : RecordNumber → Option (List ℕ)) (room : ℕ) (w : Ended s n look room)
    → Tells (end_of s n look room w) (count_of s n look room w) (walk_lines room s n look 0 (fresh_of s))

-- a table that is no longer than the most, passes its check and has a base row
pub record Listable (t : List ℕ) (b : Held) : Type 0 where
  pub short : length t ≤ most_table
  pub based : Based t b

-- the listing of a table, by what refuses it or its base record, or by the listing of its base record. Of these there
-- is but one for a table
pub data Listing (room : ℕ) (t : List ℕ) : List Line → Type 0 where
  refused : ((b : Held) → Listable t b → ⊥) → Listing room t (line.TableRefused ∷ [])
  unopened : (b : Held) (r : Refusal) → Listable t b → file_of_bytes t b.bytes b.number ≡ refuses r
      → Listing room t (line.Record b.number (length b.bytes) ∷ line.Stopped r.cause 0 ∷ [])
  listed : (b : Held) (x : Lent) (lines : List Line) (w : Ended b.bytes b.number (record_of t) room) → Listable t b
      → file_of_bytes t b.bytes b.number ≡ gives x
      → Tells (end_of b.bytes b.number (record_of t) room w) (count_of b.bytes b.number (record_of t) room w) lines
      → count_of b.bytes b.number (record_of t) room w ≤ most (length b.bytes)
      → Listing room t (line.Record b.number (length b.bytes) ∷ lines)

-- for every table, whatever its bytes
abbrev pub ListingsTell : Type 0
ListingsTell = (room : ℕ) (t : List ℕ) → Listing room t (listing_of room t)
