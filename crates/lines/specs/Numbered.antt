-- RULES 18.8: the listing of a table of any size, and of the record with a number in it.
use Rattle.std.specs.Prelude.{ℕ, List, [], ◌∷◌, Option, Some, None}
use Rattle.fields.specs.Answer.{Outcome, gives, refuses}
use Rattle.fields.specs.declared.RecordNumber.{RecordNumber}
use Rattle.table.specs.Check.{table_of}
use Rattle.table.specs.Held.{record_of}
use Rattle.table.specs.declared.check.TableHeader.{TableHeader}
use Rattle.lines.specs.Listing.{base_lines, checked_lines}
use Rattle.lines.specs.declared.line.Line.{Line}
use Rattle.lines.specs.declared.line.Line.TheVariants as line

-- of bytes of any number, and else as the listing (18.1)
abbrev pub table_listing : ℕ → List ℕ → List Line
table_listing room t = checked_lines room t (table_of t)

-- a record taken for the base record, or 17 where no row has its number
unfoldable pub found_lines : ℕ → List ℕ → TableHeader → RecordNumber → Option (List ℕ) → List Line
found_lines room t h n None = line.NoRecord ∷ []
found_lines room t h n (Some s) = base_lines room t h (Some (record { number = n; bytes = s }))

-- of a table that passed its check, with a base row or without one
abbrev pub record_lines : ℕ → List ℕ → TableHeader → RecordNumber → List Line
record_lines room t h n = found_lines room t h n (record_of t n)

unfoldable pub numbered_lines : ℕ → List ℕ → RecordNumber → Outcome TableHeader → List Line
numbered_lines room t n (gives h) = record_lines room t h n
numbered_lines room t n (refuses r) = line.TableRefused ∷ []

-- of bytes of any number
abbrev pub record_listing : ℕ → List ℕ → RecordNumber → List Line
record_listing room t n = numbered_lines room t n (table_of t)
