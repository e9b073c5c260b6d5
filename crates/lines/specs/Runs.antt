-- RULES 18.12: the runs of a value or of a part, a line each.
use Rattle.std.specs.Prelude.{List, [], map, take, drop}
use Rattle.fields.specs.Answer.{Outcome, gives, refuses}
use Rattle.record.specs.Open.{Lent}
use Rattle.record.specs.declared.layout.Span.{Span}
use Rattle.runs.specs.Runs.{runs_of}
use Rattle.runs.specs.declared.run.Run.{Run}
use Rattle.lines.specs.declared.line.Contents.{Contents}
use Rattle.lines.specs.declared.line.Contents.TheVariants as contents
use Rattle.lines.specs.declared.line.Line.{Line}
use Rattle.lines.specs.declared.line.Line.TheVariants as line

-- a run, or the refusal that ends them
abbrev pub run_line : Outcome Run → Line
run_line (gives r) = line.Run r
run_line (refuses r) = line.RunsRefused r.cause

-- those in some bytes of a record that was looked up; that of a part is always found (parts/Laws)
unfoldable pub run_lines : Outcome Lent → Span → List Line
run_lines (gives x) p = map run_line (runs_of x.number (take p.bytes (drop p.from x.bytes)) p.from)
run_lines (refuses r) p = []

-- those under the line of a value, which may have none
abbrev pub value_lines : Outcome Lent → Contents → List Line
value_lines x (contents.Resident p) = []
value_lines x (contents.Runs p size) = run_lines x p
value_lines x (contents.Refused c) = []
value_lines x (contents.Parts k size) = []
value_lines x (contents.PartsRefused k c) = []
