-- One raw record is read by its place.
use Rattle.std.specs.Prelude.{ℕ, ◌≡◌, ◌<◌, List, Bool, eqb, length, take, Option, Some, None, IfSome}
use Rattle.std.specs.Io.KnownBytes.{Consumes, IsAtEnd}
use Rattle.command.specs.declared.absence.Absence.{Absence}
use Rattle.command.specs.declared.absence.Absence.TheVariants.{Missing}
use Rattle.mft.specs.Absence.{absence_of}

-- a room has the next bytes, so many; where these don't fill it, the input ends behind them
abbrev pub Fills : Option (List ℕ) → Option (List ℕ) → ℕ → List ℕ → Type 0
Fills old new have room = Consumes old new (take have room) × (have < length room → IsAtEnd new)

-- a reader, by what is known of where it stands and of what it has left
module _ {R : Type 0} (stands : R → Option ℕ) (left : R → Option (List ℕ)) where
  -- it went to a place, and from there on the room was filled, or not
  abbrev pub ReadsAt : R → R → ℕ → Bool → List ℕ → Type 0
  ReadsAt old new place whole room =
      (there : R) × IfSome (stands old) (λ at. stands there ≡ Some place)
      × ((have : ℕ) × Fills (left there) (left new) have room × (whole ≡ eqb have (length room)))

  -- a record that stands at a place was read, and why it is not there to be listed; nothing is read of one that stands
  -- at none
  abbrev pub Fetches : R → R → Option ℕ → List ℕ → Option Absence → Type 0
  Fetches old new None room why = (new ≡ old) × (why ≡ Some Missing)
  Fetches old new (Some place) room why =
      (whole : Bool) × ReadsAt old new place whole room × (why ≡ absence_of whole room)
