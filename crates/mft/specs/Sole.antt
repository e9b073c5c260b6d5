-- A raw record alone, in a table of its own.
use Rattle.std.specs.Prelude.{ℕ, ◌≡◌, ◌≤◌, List, [], ◌∷◌, length, take, Option, Some, None}
use Rattle.fields.specs.declared.Cause.{Cause}
use Rattle.fields.specs.declared.RecordNumber.{RecordNumber}
use Rattle.record.specs.Open.{open_of}
use Rattle.extract.specs.Fixup.{sound, verdict_of}
use Rattle.references.specs.Shown.{shown_rising}
use Rattle.command.specs.declared.reason.Reason.{Reason}
use Rattle.command.specs.declared.reason.Reason.TheVariants.{Unlisted}
use Rattle.mft.specs.Gather.{wanted_by}
use Rattle.mft.specs.Made.{IsMade}
use Rattle.mft.specs.declared.sole.Sole.{Sole}
use Rattle.mft.specs.Kind.{kind_of, passed, broken, base}

-- at the front of a buffer of m bytes stands its table, and its listing takes the records with these numbers
abbrev pub IsSole : List ℕ → RecordNumber → ℕ → List ℕ → Sole → Type 0
IsSole own n m t s =
    (s.length ≤ length t) × IsMade (length own) own (n ∷ []) n m (take s.length t)
    × ((b : List ℕ) × (verdict_of own ≡ sound b) × (shown_rising s.wanted ≡ wanted_by (open_of b n) n))

-- it is passed over; or it is a base record in use, and this is its table
abbrev pub Sifts : List ℕ → RecordNumber → ℕ → List ℕ → Option Sole → Type 0
Sifts own n m t None = kind_of own n ≡ passed
Sifts own n m t (Some s) = ((b : List ℕ) × (kind_of own n ≡ base b)) × IsSole own n m t s

-- it is refused
abbrev pub Unsifted : List ℕ → RecordNumber → Reason → Type 0
Unsifted own n r = (c : Cause) × (kind_of own n ≡ broken c) × (r ≡ Unlisted n c)
