-- What a refusal's number means: the cause that has it.
use Rattle.std.specs.Prelude.{ℕ, ◌==◌, List, Option, find}
use Rattle.fields.specs.Told.{number_of}
use Rattle.fields.specs.declared.Cause.{Cause}

-- the first of these causes with a number
abbrev pub explained : List Cause → ℕ → Option Cause
explained causes n = find (λ c. number_of c == n) causes
