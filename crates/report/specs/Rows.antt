-- RULES 18.9: what a table holds, a line a row.
use Rattle.std.specs.Prelude.{ℕ, ◌%◌, List, [], ◌∷◌, ◌++◌, map, eqb}
use Rattle.fields.specs.Pick.{pick}
use Rattle.fields.specs.Answer.{Outcome, gives, refuses}
use Rattle.table.specs.Check.{table_of}
use Rattle.table.specs.Rows.{Filed, filed_of}
use Rattle.table.specs.declared.check.TableHeader.{TableHeader}
use Rattle.record.specs.Header.{header_of}
use Rattle.record.specs.Open.{Lent, open_of}
use Rattle.lines.specs.declared.line.Line.TheVariants as listing
use Rattle.report.specs.declared.line.State.{State}
use Rattle.report.specs.declared.line.State.TheVariants as state
use Rattle.report.specs.declared.line.Line.{Line}
use Rattle.report.specs.declared.line.Line.TheVariants as line

-- the lowest bit of a record's flags (1.5)
unfoldable pub state_of : Outcome Lent → State
state_of (gives r) = pick (eqb ((header_of r.bytes).flags % 2) 1) state.Used state.Free
state_of (refuses r) = state.Refused r.cause

-- a row's record number, where that record stands in the table, and what it is
unfoldable pub row_of : Filed → Line
row_of f = line.Row f.row.number f.row.offset (state_of (open_of f.bytes f.row.number))

-- the rows in the order of the directory, and how many they are
abbrev pub rows_behind : List Filed → ℕ → List Line
rows_behind fs k = map row_of fs ++ line.Rows k ∷ []

unfoldable pub rows_lines : List ℕ → Outcome TableHeader → List Line
rows_lines t (gives h) = rows_behind (filed_of t h) h.count
rows_lines t (refuses r) = line.Listed listing.TableRefused ∷ []

-- of any bytes
abbrev pub rows_report : List ℕ → List Line
rows_report t = rows_lines t (table_of t)
