-- RULES 18.9, 18.10: how a report ended, told by its last line.
use Rattle.std.specs.Prelude.{List, Option, Some, None}
use Rattle.lines.specs.Ending as listing
use Rattle.lines.specs.Ending.{said_last}
use Rattle.lines.specs.declared.ending.Ending.{Ending}
use Rattle.lines.specs.declared.ending.Ending.TheVariants as ending
use Rattle.report.specs.declared.line.Line.{Line}
use Rattle.report.specs.declared.line.Line.TheVariants as line

-- what a line says of the end: only a last line says something
abbrev pub says : Line → Option Ending
says (line.Listed l) = listing.says l
says (line.Row n place s) = None
says (line.Rows k) = Some ending.Whole
says (line.Header h) = None
says line.End = Some ending.Whole
says (line.Stopped c) = Some (ending.Stopped c)
says (line.Refused c) = Some (ending.Refused c)

abbrev pub ending_of : List Line → Option Ending
ending_of ls = said_last says None ls
