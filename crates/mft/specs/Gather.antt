-- RULES 24.6: the records that a record's listing takes, read from a raw $MFT.
use Rattle.std.specs.Prelude.{ℕ, ◌≡◌, ◌≢◌, ◌⊎◌, List, [], ◌∷◌, map, flat_map, length}
use Rattle.std.specs.Prelude.{Option, Some, None, All}
use Rattle.fields.specs.Answer.{Outcome, gives, refuses}
use Rattle.fields.specs.declared.RecordNumber.{RecordNumber}
use Rattle.record.specs.Open.{Lent}
use Rattle.references.specs.References.{references_of}
use Rattle.references.specs.Rising.{sorted}
use Rattle.command.specs.declared.absence.Absence.{Absence}
use Rattle.mft.specs.Fetch.{Fetches}
use Rattle.mft.specs.Layout.{place_in}
use Rattle.mft.specs.declared.gathered.Lost.{Lost}
use Rattle.mft.specs.declared.layout.Layout.{Layout}

-- the numbers of the records that a record's listing takes, by how it opens: its own, and those that its lists refer to
abbrev pub referred : Outcome Lent → List RecordNumber
referred (gives r) = (references_of r.bytes r.number).numbers
referred (refuses e) = []

abbrev pub wanted_by : Outcome Lent → RecordNumber → List RecordNumber
wanted_by r n = sorted (n ∷ referred r)

-- a record that was wanted: what was read of it, and why it is not there to be listed
pub record Fetched : Type 0 where
  pub number : RecordNumber
  pub raw : List ℕ
  pub why : Option Absence

-- what is told of one that is not there
abbrev pub lost_by : RecordNumber → Option Absence → List Lost
lost_by n None = []
lost_by n (Some why) = record { number = n; why = why } ∷ []

-- of those fetched, in their order
abbrev pub lost_of : List Fetched → List Lost
lost_of fs = flat_map (λ f. lost_by f.number f.why) fs

-- as many bytes as records have: the one that is at hand is taken as it is, another read by its place
module _ {R : Type 0} (stands : R → Option ℕ) (left : R → Option (List ℕ)) where
  abbrev pub IsFetched : Layout → RecordNumber → List ℕ → Fetched → Type 0
  IsFetched l own raw f =
      (length f.raw ≡ l.size)
      × (((f.number.0 ≡ own.0) × (f.raw ≡ raw) × (f.why ≡ None))
      ⊎ ((f.number.0 ≢ own.0) × ((old new : R) × Fetches stands left old new (place_in l f.number) f.raw f.why)))

  -- all that are wanted were fetched
  abbrev pub AreFetched : Layout → RecordNumber → List ℕ → List RecordNumber → List Fetched → Type 0
  AreFetched l own raw wanted fs = All (IsFetched l own raw) fs × (map (λ f. f.number) fs ≡ wanted)
