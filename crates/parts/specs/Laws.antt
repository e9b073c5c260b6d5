-- What holds of this chapter whatever the bytes; src/laws.rt has the functions whose contracts these are.
use Rattle.std.specs.Prelude.{ℕ, ◌+◌, ◌≤◌, ◌≡◌, List, [], ◌∷◌, ◌++◌, map, drop, length, true, false, Option, Some, All}
use Rattle.fields.specs.Answer.{gives, Outcome}
use Rattle.fields.specs.declared.RecordNumber.{RecordNumber}
use Rattle.record.specs.Open.{Lent}
use Rattle.list.specs.Entry.{entry_of}
use Rattle.list.specs.declared.Entry.{Entry}
use Rattle.items.specs.State.{list_at, rest_of}
use Rattle.items.specs.Key.{name_in, key_of, continues}
use Rattle.items.specs.Lookup.{lookup_of}
use Rattle.items.specs.Items.{next_of}
use Rattle.items.specs.declared.key.Key.{Key}
use Rattle.items.specs.declared.walk.Rest.{Rest}
use Rattle.items.specs.declared.walk.State.{State}
use Rattle.items.specs.declared.walk.Item.{Item}
use Rattle.parts.specs.declared.Part.{Part}
use Rattle.parts.specs.declared.Filled.{Filled}
use Rattle.parts.specs.Parts.{Given, Parts, parts_in, parts_of}
use Rattle.parts.specs.Filled.{Told, told_parts, filled, most_parts}

-- RULES 2, 17: two calls that report the same of a lent list left the same list and gave the same result
abbrev pub FilledSettle : Type 0
FilledSettle = (xs ys : List Part) (r t : Filled) (a : Told) → filled xs r ≡ a → filled ys t ≡ a → (xs ≡ ys) × (r ≡ t)

-- RULES 15: the parts stand in front, in the order of the list, and the records past the reported number are
-- unchanged
abbrev pub PartsInFront : Type 0
PartsInFront = (xs : List Part) (p : Parts) → length p.given ≤ length xs
    → (told_parts xs p).list ≡ map (λ g. g.part) p.given ++ drop (length p.given) xs

-- there are no more of them than there is room for
abbrev pub PartsFit : Type 0
PartsFit = (s : List ℕ) (n : RecordNumber) (look : RecordNumber → Option (List ℕ)) (room : ℕ) (o : Option Rest)
    → length (parts_of s n look room o).given ≤ room

-- with room for 157 there is room for every list of a record: more room changes nothing
abbrev pub RoomSuffices : Type 0
RoomSuffices = (s : List ℕ) (n : RecordNumber) (look : RecordNumber → Option (List ℕ)) (room : ℕ) (o : Option Rest)
    → length s ≤ 4096 → most_parts ≤ room → parts_of s n look room o ≡ parts_of s n look most_parts o

-- whole parts are at least one, for every item that tells a list
abbrev pub WholePartsAreSome : Type 0
WholePartsAreSome = (s : List ℕ) (n : RecordNumber) (look : RecordNumber → Option (List ℕ)) (w : State) (i : Item)
    (l : Rest) (room : ℕ) → (next_of s n look w).answer ≡ gives i → i.rest ≡ Some l
    → (parts_of s n look room (Some l)).answer ≡ gives tt → 1 ≤ length (parts_of s n look room (Some l)).given

-- what stands in a list of the record s that ends at `to`
module _ (s : List ℕ) (n : RecordNumber) (to : ℕ) where
  abbrev pub Stands : ℕ → Entry → Type 0
  Stands at e = entry_of (rest_of s (list_at at to)) n at ≡ gives e

  abbrev pub named_at : ℕ → Entry → List ℕ
  named_at at e = name_in s (list_at at to) e

  -- parts from a place on, each by the entry directly behind that of the one before, which continues the stream of a
  -- key; and where they are whole, no entry behind the last of them continues it
  abbrev pub Continued : Key → Outcome Unit → ℕ → List Given → Type 0
  Continued key a at [] = a ≡ gives tt → (e : Entry) → Stands at e → continues key e (named_at at e) ≡ false
  Continued key a at (g ∷ gs) =
      (e : Entry) × Stands at e × (g.place ≡ at) × (continues key e (named_at at e) ≡ true)
      × Continued key a (at + e.length) gs

  -- and from the front on, where any entry begins its stream
  abbrev pub Stream : Outcome Unit → ℕ → List Given → Type 0
  Stream a at [] = a ≡ gives tt → (e : Entry) → Stands at e → ⊥
  Stream a at (g ∷ gs) =
      (e : Entry) × Stands at e × (g.place ≡ at)
      × Continued (key_of e (named_at at e)) a (at + e.length) gs

-- RULES 15.2: the parts by a list are of one stream, in its order, and whole ones leave none out
abbrev pub PartsAreOneStream : Type 0
PartsAreOneStream = (s : List ℕ) (n : RecordNumber) (look : RecordNumber → Option (List ℕ)) (room : ℕ) (l : Rest)
    → Stream s n l.to (parts_in s n look room (Some l)).answer l.from (parts_in s n look room (Some l)).given

-- RULES 15.3: a part's record is found again by its number, whatever place is blamed, and its run bytes lie inside it
pub record FoundAgain (s : List ℕ) (n : RecordNumber) (look : RecordNumber → Option (List ℕ)) (place : ℕ) (p : Part)
    : Type 0 where
  pub within : Lent
  pub opened : lookup_of s n look p.file place ≡ gives within
  pub inside : p.runs.from + p.runs.bytes ≤ length within.bytes

abbrev pub PartsAreFoundAgain : Type 0
PartsAreFoundAgain = (s : List ℕ) (n : RecordNumber) (look : RecordNumber → Option (List ℕ)) (room : ℕ)
    (o : Option Rest) (place : ℕ) → All (λ g. FoundAgain s n look place g.part) (parts_of s n look room o).given
