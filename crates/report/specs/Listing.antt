-- RULES 18.11: a listing among reports, whose lines have a form in JSON too.
use Rattle.std.specs.Prelude.{ℕ, List, map}
use Rattle.fields.specs.declared.RecordNumber.{RecordNumber}
use Rattle.lines.specs.Numbered.{table_listing, record_listing}
use Rattle.report.specs.declared.line.Line.{Line}
use Rattle.report.specs.declared.line.Line.TheVariants as line

abbrev pub table_report : ℕ → List ℕ → List Line
table_report room t = map (λ l. line.Listed l) (table_listing room t)

abbrev pub numbered_report : ℕ → List ℕ → RecordNumber → List Line
numbered_report room t n = map (λ l. line.Listed l) (record_listing room t n)
