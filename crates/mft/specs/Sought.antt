-- RULES 26.4: whether a table's base record has a name that is wanted, if one is.
use Rattle.std.specs.Prelude.{ℕ, ◌≡◌, List, Bool, true, false, Option, Some, None}
use Rattle.fields.specs.declared.RecordNumber.{RecordNumber}
use Rattle.fields.specs.declared.Refusal.{Refusal}
use Rattle.record.specs.Open.{open_in}
use Rattle.filename.specs.declared.find.Found.{Found}
use Rattle.filename.specs.declared.find.Found.TheVariants.{Yes, No, Unknown}
use Rattle.command.specs.declared.reason.Reason.{Reason}
use Rattle.command.specs.declared.reason.Reason.TheVariants.{Unsearched}
use Rattle.mft.specs.Base.{OfBase}
use Rattle.mft.specs.Seek.{found_in}

-- by every lookup that agrees with the table
abbrev pub IsKnown : List ℕ → RecordNumber → List ℕ → Found → Type 0
IsKnown t n name found = OfBase t n (λ size b peek. found_in peek name (open_in b n size) ≡ found)

abbrev pub answer : Bool → Found
answer true = Yes
answer false = No

-- that is not known, since its walk is refused, or the record is
abbrev pub IsUnknown : RecordNumber → List ℕ → List ℕ → Reason → Type 0
IsUnknown n t name r = (e : Refusal) × (r ≡ Unsearched n e.cause) × IsKnown t n name (Unknown e)

-- it has the name that is wanted, or has not; where none is wanted it has
abbrev pub IsSought : RecordNumber → List ℕ → Option (List ℕ) → Bool → Type 0
IsSought n t None is = is ≡ true
IsSought n t (Some name) is = IsKnown t n name (answer is)

abbrev pub IsUnsought : RecordNumber → List ℕ → Option (List ℕ) → Reason → Type 0
IsUnsought n t None r = ⊥
IsUnsought n t (Some name) r = IsUnknown n t name r
