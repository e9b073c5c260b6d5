-- Every listing ends: its walk comes to its end or is refused, since an item lowers what is left to read.
use Rattle.std.proofs.Common.{ℕ, zero, suc, ◌≡◌, ◌<◌, List, [], ◌∷◌, ◌++◌, flat_map, length}
use Rattle.std.proofs.Common.{refl, sym, subst, ◌∙◌, arith}
use Rattle.std.specs.Prelude.{Option, Some, None}
use Rattle.fields.specs.Answer.{Outcome, Answer, gives, ends, refuses}
use Rattle.fields.specs.declared.Cause.TheVariants.{NoRecord, BadTable}
use Rattle.fields.specs.declared.RecordNumber.{RecordNumber}
use Rattle.fields.proofs.Cases.{both}
use Rattle.table.specs.Check.{table_of}
use Rattle.table.specs.Held.{Held, record_of, base_of}
use Rattle.table.specs.declared.check.TableHeader.{TableHeader}
use Rattle.record.specs.Open.{Lent, open_in}
use Rattle.items.specs.State.{fresh_of, weight}
use Rattle.items.specs.Items.{next_of}
use Rattle.items.specs.declared.walk.Item.{Item}
use Rattle.items.specs.declared.walk.State.{State}
use Rattle.items.proofs.Falls.{falls}
use Rattle.parts.specs.Parts.{parts_of}
use Rattle.parts.specs.declared.Part.{Part}
use Rattle.lines.specs.Listing.{given_parts, item_runs, part_lines, lines_after, lines_run, walk_lines}
use Rattle.lines.specs.Listing.{opened_lines, base_lines, table_lines, checked_lines, listing_of}
use Rattle.lines.specs.Numbered.{found_lines, numbered_lines, record_listing, table_listing}
use Rattle.lines.specs.Ending.{says, said_last}
use Rattle.lines.specs.Finished.{Finished}
use Rattle.lines.specs.Rest.{rest}
use Rattle.lines.specs.declared.Lines.{Lines}
use Rattle.lines.specs.declared.line.Line.{Line}
use Rattle.lines.specs.declared.ending.Ending.{Ending}
use Rattle.lines.specs.declared.ending.Ending.TheVariants as ending

-- whatever the line before them said
Ends : List Line → Type 0
Ends ls = (o : Option Ending) → (e : Ending) × (said_last says o ls ≡ Some e)

last_behind : (o : Option Ending) (xs ys : List Line)
    → said_last says o (xs ++ ys) ≡ said_last says (said_last says o xs) ys
unfolding said_last
last_behind o [] ys = refl
last_behind o (x ∷ xs) ys = last_behind (says x) xs ys

behind : (xs ys : List Line) → Ends ys → Ends (xs ++ ys)
unfolding Ends
behind xs ys h o = let p = h (said_last says o xs) in (p.0, last_behind o xs ys ∙ p.1)

more : (x : Line) (ys : List Line) → Ends ys → Ends (x ∷ ys)
unfolding Ends said_last
more x ys h o = h (says x)

alone : (x : Line) (e : Ending) → says x ≡ Some e → Ends (x ∷ [])
unfolding Ends said_last
alone x e h o = (e, h)

module _ (room : ℕ) (s : List ℕ) (n : RecordNumber) (look : RecordNumber → Option (List ℕ)) where
  after : (fuel k : ℕ) (w : State) → weight (length s) w < suc fuel
      → ((k : ℕ) (u : State) → weight (length s) u < fuel → Ends (lines_run room s n look fuel k u))
      → (a : Answer Item) → (next_of s n look w).answer ≡ a
      → Ends (lines_after room s n look (lines_run room s n look fuel) k (next_of s n look w).left a)
  after fuel k w h on (gives i) e =
      let f = falls s n look w i e in
      more _ _ (behind (item_runs room s n look i) _
      (behind (flat_map (part_lines s n look) (given_parts (parts_of s n look room i.rest))) _ (on _ _ (omega arith))))
  after fuel k w h on ends e = alone _ ending.Whole refl
  after fuel k w h on (refuses r) e = alone _ (ending.Stopped r.cause) refl

  run : (fuel k : ℕ) (w : State) → weight (length s) w < fuel → Ends (lines_run room s n look fuel k w)
  unfolding lines_run
  run zero k w h = absurd (omega arith)
  run (suc fuel) k w h = after fuel _ w h (λ k u m. run fuel k u m) (next_of s n look w).answer refl

  walk : (k : ℕ) (w : State) → Ends (walk_lines room s n look k w)
  unfolding walk_lines
  walk k w = run _ k w (omega arith)

opened : (room : ℕ) (t : List ℕ) (a : Outcome Lent) → Ends (opened_lines room t a)
unfolding opened_lines
opened room t (gives b) = walk room b.bytes b.number (record_of t) 0 (fresh_of b.bytes)
opened room t (refuses r) = alone _ (ending.Stopped r.cause) refl

base : (room : ℕ) (t : List ℕ) (h : TableHeader) (o : Option Held) → Ends (base_lines room t h o)
unfolding base_lines
base room t h None = alone _ (ending.Refused BadTable) refl
base room t h (Some b) = more _ _ (opened room t (open_in b.bytes b.number h.size))

checked : (room : ℕ) (t : List ℕ) (a : Outcome TableHeader) → Ends (checked_lines room t a)
unfolding checked_lines table_lines
checked room t (gives h) = base room t h (base_of t)
checked room t (refuses r) = alone _ (ending.Refused BadTable) refl

found : (room : ℕ) (t : List ℕ) (h : TableHeader) (n : RecordNumber) (o : Option (List ℕ))
    → Ends (found_lines room t h n o)
unfolding found_lines
found room t h n None = alone _ (ending.Refused NoRecord) refl
found room t h n (Some s) = base room t h (Some (record { number = n; bytes = s }))

numbered : (room : ℕ) (t : List ℕ) (n : RecordNumber) (a : Outcome TableHeader) → Ends (numbered_lines room t n a)
unfolding numbered_lines
numbered room t n (gives h) = found room t h n (record_of t n)
numbered room t n (refuses r) = alone _ (ending.Refused BadTable) refl

finished : (ls : List Line) → Ends ls → Finished ls
unfolding Ends
finished ls h = let p = h None in record { ending = p.0; told = p.1 }

-- the listings themselves
pub table_finishes : (room : ℕ) (t : List ℕ) → Finished (table_listing room t)
table_finishes room t = finished _ (checked room t (table_of t))

pub record_finishes : (room : ℕ) (t : List ℕ) (n : RecordNumber) → Finished (record_listing room t n)
record_finishes room t n = finished _ (numbered room t n (table_of t))

as_finished : (ls : List Line) {ms : List Line} → ls ≡ ms → Ends ms → Finished ls
as_finished ls e h = subst Finished (sym e) (finished _ h)

-- lines that are still to come of one of the three
pub table_ends : (ps : List Part) (l : Lines) (t : List ℕ) → rest ps l ≡ table_listing (length ps) t
    → Finished (rest ps l)
table_ends ps l t e = as_finished _ e (checked (length ps) t (table_of t))

pub record_ends : (ps : List Part) (l : Lines) (t : List ℕ) (n : RecordNumber)
    → rest ps l ≡ record_listing (length ps) t n → Finished (rest ps l)
record_ends ps l t n e = as_finished _ e (numbered (length ps) t n (table_of t))

limited : (room : ℕ) (t : List ℕ) → Ends (listing_of room t)
unfolding listing_of
limited room t = both Ends _ _ _ (alone _ (ending.Refused BadTable) refl)
    (checked room t (table_of t))

pub listing_ends : (ps : List Part) (l : Lines) (t : List ℕ) → rest ps l ≡ listing_of (length ps) t
    → Finished (rest ps l)
listing_ends ps l t e = as_finished _ e (limited (length ps) t)
