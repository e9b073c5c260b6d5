-- What opening a file says: 21, then 1, 2 and 27 (RULES 3, 10); and what a search says that hands out the attribute
-- with its record (RULES 12).
use Rattle.std.specs.Prelude.{ℕ, List}
use Rattle.fields.specs.Answer.{Outcome, Report, report, ◌⟫◌}
use Rattle.fields.specs.Told.{told_as}
use Rattle.fields.specs.declared.RecordNumber.{RecordNumber}
use Rattle.fields.specs.declared.Counted.{Counted}
use Rattle.table.specs.Check.{table_of}
use Rattle.record.specs.Open.{open_in}
use Rattle.record.specs.Told.{shown_record, attribute_of}
use Rattle.record.specs.declared.layout.Attribute.{Attribute}
use Rattle.record.specs.declared.values.Located.{Located}
use Rattle.items.specs.declared.File.{File}
pub use Rattle.record.specs.Open.{Lent}

-- of the bytes of a table and of a base record
unfoldable pub file_of_bytes : List ℕ → List ℕ → RecordNumber → Outcome Lent
file_of_bytes t s n = table_of t ⟫ λ h. open_in s n h.size

-- a file's base record, which is told beside its table
abbrev pub shown_base : File → Lent
shown_base f = shown_record f.base

abbrev pub told_found : Counted Located → Report Attribute
told_found c = report (told_as attribute_of c.answer) c.reads
