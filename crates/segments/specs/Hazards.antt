-- RULES 25.3: the hazards of a file.
use Rattle.std.specs.Prelude.{ℕ, ◌+◌, List, [], ◌∷◌, ◌++◌, Bool, flat_map, Option}
use Rattle.fields.specs.Pick.{pick}
use Rattle.fields.specs.Le.{le}
use Rattle.fields.specs.Answer.{Outcome, gives, refuses}
use Rattle.fields.specs.declared.RecordNumber.{RecordNumber}
use Rattle.record.specs.Header.{header_of}
use Rattle.record.specs.Open.{Lent}
use Rattle.items.specs.Lookup.{lookup_of}
use Rattle.references.specs.References.{references_of}
use Rattle.segments.specs.Base.{base_reference_of, is_zero, is_in_use, fits, is_back}
use Rattle.segments.specs.Placed.{Placed, all_placed}
use Rattle.segments.specs.declared.find.Hazard.{Hazard}
use Rattle.segments.specs.declared.find.Hazard.TheVariants.{Sequence, NotInUse, OtherBase}

-- of a record itself, by whether its reference to a base record is as it should be
unfoldable pub record_hazards : List ℕ → RecordNumber → Bool → List Hazard
record_hazards s n due =
    pick (is_in_use s) [] (NotInUse n ∷ []) ++ pick due [] (OtherBase n (base_reference_of s) ∷ [])

-- of an entry, by the sequence number in its reference and the record that it names; none where that can't be looked up
unfoldable pub sequence_hazards : Placed → ℕ → Outcome Lent → List Hazard
sequence_hazards p named (refuses r) = []
sequence_hazards p named (gives r) =
    pick (fits named (header_of r.bytes).sequence) []
    (Sequence p.place p.entry.file named (header_of r.bytes).sequence ∷ [])

-- of a record that the lists of the base record with these bytes refer to; none where it can't be looked up
unfoldable pub found_hazards : List ℕ → RecordNumber → Outcome Lent → List Hazard
found_hazards s n (refuses r) = []
found_hazards s n (gives r) = record_hazards r.bytes r.number (is_back s n (base_reference_of r.bytes))

module _ (s : List ℕ) (n : RecordNumber) (look : RecordNumber → Option (List ℕ)) where
  unfoldable pub entry_hazards : Placed → List Hazard
  entry_hazards p = sequence_hazards p (le 2 s (p.place + 22)) (lookup_of s n look p.entry.file p.place)

  -- over entries, up to the first refusal
  unfoldable pub entries_hazards : List (Outcome Placed) → List Hazard
  entries_hazards [] = []
  entries_hazards (refuses r ∷ ps) = []
  entries_hazards (gives p ∷ ps) = entry_hazards p ++ entries_hazards ps

  unfoldable pub listed_hazards : List Hazard
  listed_hazards = entries_hazards (all_placed s n)

  unfoldable pub number_hazards : RecordNumber → List Hazard
  number_hazards m = found_hazards s n (lookup_of s n look m 0)

  unfoldable pub referred_hazards : List Hazard
  referred_hazards = flat_map number_hazards (references_of s n).numbers

  -- of the base record, of the entries, and of the records referred to
  unfoldable pub hazards_of : List Hazard
  hazards_of = record_hazards s n (is_zero (base_reference_of s)) ++ (listed_hazards ++ referred_hazards)
