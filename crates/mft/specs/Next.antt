-- The next raw record of an input is read.
use Rattle.std.specs.Prelude.{ℕ, ◌+◌, ◌≡◌, ◌<◌, List, Option, Some, None}
use Rattle.std.specs.Io.KnownBytes.{Consumes, IsAtEnd}
use Rattle.fields.specs.declared.RecordNumber.{RecordNumber}
use Rattle.table.specs.Check.{number_end}

-- the next record was read whole, or the input is at its end
abbrev pub Reads : Option (List ℕ) → Option (List ℕ) → RecordNumber → RecordNumber → List ℕ → Option RecordNumber
    → Type 0
Reads old new n next room None = IsAtEnd old × (next ≡ n)
Reads old new n next room (Some m) = Consumes old new room × (m ≡ n) × (next.0 ≡ n.0 + 1) × (n.0 < number_end)
