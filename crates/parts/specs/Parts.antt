-- RULES 15: the parts of a non-resident item found by an entry: by that entry and those directly behind it, over
-- what the entries of its list are.
use Rattle.std.specs.Prelude.{ℕ, ◌+◌, ◌-◌, List, [], ◌∷◌, ◌++◌, map, length, ltb, Option, Some, None}
use Rattle.fields.specs.Pick.{pick}
use Rattle.fields.specs.Answer.{Outcome, gives, refuses, refusal}
use Rattle.fields.specs.Known.{known_type}
use Rattle.fields.specs.declared.RecordNumber.{RecordNumber}
use Rattle.fields.specs.declared.Cause.TheVariants.{NoRoom, UnknownType, BadState}
use Rattle.list.specs.declared.Entry.{Entry}
use Rattle.items.specs.Read.{Read, sought, joined}
use Rattle.items.specs.State.{lies_in, list_at}
use Rattle.items.specs.Key.{name_in, key_of, continues}
use Rattle.items.specs.Items.{entries_of, sought_of}
use Rattle.items.specs.declared.walk.Rest.{Rest}
use Rattle.items.specs.declared.key.Key.{Key}
use Rattle.parts.specs.Part.{part_of}
use Rattle.parts.specs.declared.Part.{Part}

-- a part, and the place of the entry that gave it
pub record Given : Type 0 where
  pub place : ℕ
  pub part : Part

-- the parts given, in the order of the list, how they end, and what the call read, in order
pub record Parts : Type 0 where
  pub given : List Given
  pub answer : Outcome Unit
  pub reads : List Read

abbrev pub stops : Outcome Unit → Parts
stops a = record { given = []; answer = a; reads = [] }

abbrev pub reading : List Read → Parts → Parts
reading rs p = record p { reads = rs ++ p.reads }

-- the part by the entry at a place, and those behind it; or its refusal
unfoldable pub giving : ℕ → Outcome Part → Parts → Parts
giving place (gives p) behind = record behind { given = record { place = place; part = p } ∷ behind.given }
giving place (refuses r) behind = stops (refuses r)

module _ (s : List ℕ) (n : RecordNumber) (look : RecordNumber → Option (List ℕ)) where
  -- the part by the entry at a place and those behind it, where there is room; 20 comes before the lookup
  abbrev pub taking : ℕ → Entry → ℕ → Parts → Parts
  taking room e from behind =
      pick (ltb 0 room)
      (reading (map (sought e.file) (sought_of s n look e from).read) (giving from (part_of s n look e from) behind))
      (stops (refuses (refusal NoRoom n from)))

  -- the parts by the entries behind the first, in a list that ends at `to`: an entry that does not continue the stream
  -- of the first one's key ends them, one of unknown type too
  unfoldable pub parts_by : Key → ℕ → ℕ → List (Outcome Entry) → ℕ → Parts
  parts_by key to room [] from = stops (gives tt)
  parts_by key to room (refuses r ∷ es) from = stops (refuses r)
  parts_by key to room (gives e ∷ es) from =
      reading (joined from e ∷ [])
      (pick (continues key e (name_in s (list_at from to) e))
      (taking room e from (parts_by key to (room - 1) es (from + e.length)))
      (stops (gives tt)))

  -- the first entry is judged by its type alone: 6 where that is unknown; it tells the key. A place where none is given
  -- makes no parts
  unfoldable pub parts_from : ℕ → ℕ → List (Outcome Entry) → ℕ → Parts
  parts_from to room [] from = stops (gives tt)
  parts_from to room (refuses r ∷ es) from = stops (refuses r)
  parts_from to room (gives e ∷ es) from =
      reading (joined from e ∷ [])
      (pick (known_type e.ty)
      (taking room e from
      (parts_by (key_of e (name_in s (list_at from to) e)) to (room - 1) es (from + e.length)))
      (stops (refuses (refusal UnknownType n from))))

  -- an item of the raw walk has no parts
  unfoldable pub parts_in : ℕ → Option Rest → Parts
  parts_in room None = stops (gives tt)
  parts_in room (Some l) = parts_from l.to room (entries_of s n l.to l.from) l.from

  -- 22 comes before the steps
  unfoldable pub parts_of : ℕ → Option Rest → Parts
  parts_of room o = pick (lies_in (length s) o) (parts_in room o) (stops (refuses (refusal BadState n 0)))
