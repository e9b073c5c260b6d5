-- What stands in an array of numbers behind those that are told.
use Rattle.std.specs.Prelude.{ℕ, ◌-◌, ◌≡◌, List, length, drop, replicate}
use Rattle.fields.specs.declared.RecordNumber.{RecordNumber}

abbrev pub ZerosBehind : ℕ → List RecordNumber → Type 0
ZerosBehind count numbers = drop count numbers ≡ replicate (length numbers - count) (record { 0 = 0 })
