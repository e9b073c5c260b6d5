-- Records that were fetched stand in a buffer, one behind another.
use Rattle.std.specs.Prelude.{ℕ, ◌≡◌, ◌*◌, List, [], ◌∷◌, flat_map, length, take}
use Rattle.std.specs.Prelude.{Option, Some, None}
use Rattle.fields.specs.declared.RecordNumber.{RecordNumber}
use Rattle.command.specs.declared.absence.Absence.{Absence}
use Rattle.mft.specs.declared.gathered.Lost.{Lost}
use Rattle.mft.specs.declared.layout.Layout.{Layout}
use Rattle.mft.specs.Gather.{AreFetched, Fetched, lost_of}

-- what is kept of one that is there
abbrev pub kept_by : {A : Type 0} → Option Absence → List A → List A
kept_by None a = a
kept_by (Some why) a = []

-- of those fetched, in their order
abbrev pub numbers_of : List Fetched → List RecordNumber
numbers_of fs = flat_map (λ f. kept_by f.why (f.number ∷ [])) fs

abbrev pub raw_of : List Fetched → List ℕ
raw_of fs = flat_map (λ f. kept_by f.why f.raw) fs

module _ {R : Type 0} (stands : R → Option ℕ) (left : R → Option (List ℕ)) where
  -- all that are wanted were fetched, and those that are there stand in a buffer, one behind another
  abbrev pub Gathers : Layout → RecordNumber → List ℕ → List RecordNumber → List ℕ → List RecordNumber → List Lost
      → Type 0
  Gathers l own raw wanted buffer numbers lost =
      (fs : List Fetched) × AreFetched stands left l own raw wanted fs × (numbers ≡ numbers_of fs)
      × (take (l.size * length numbers) buffer ≡ raw_of fs) × (lost ≡ lost_of fs)
