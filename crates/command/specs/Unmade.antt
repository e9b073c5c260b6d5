-- Why no table is made of an extract, told apart for people, where a refusal has 1, 34 or 44 (RULES 22.4, 23.2).
use Rattle.std.specs.Prelude.{ℕ, ◌%◌, eqb}
use Rattle.fields.specs.Pick.{pick}
use Rattle.fields.specs.Told.{number_of}
use Rattle.fields.specs.declared.Cause.{Cause}
use Rattle.fields.specs.declared.Cause.TheVariants as cause
use Rattle.fields.specs.declared.Refusal.{Refusal}
use Rattle.extract.specs.Size.{good_size}
use Rattle.command.specs.declared.unmade.Unmade.{Unmade}
use Rattle.command.specs.declared.unmade.Unmade.TheVariants.{RecordSize, BrokenRecord, RowNumber, TooManyRows}

abbrev pub cause_of : Unmade → Cause
cause_of (RecordSize n) = cause.RecordLength
cause_of (BrokenRecord n) = cause.RecordLength
cause_of (RowNumber place) = cause.RowNumber
cause_of TooManyRows = cause.TooManyRows

-- 1: records of this size, and an extract of n bytes
unfoldable pub by_sizes : ℕ → ℕ → Unmade
by_sizes size n = pick (good_size size) (BrokenRecord (n % size)) (RecordSize size)

-- 34, or 44 with the place of its row: the buffer is always long enough
unfoldable pub by_refusal : Refusal → Unmade
by_refusal r = pick (eqb (number_of r.cause) (number_of cause.TooManyRows)) TooManyRows (RowNumber r.place)
