-- RULES 18.2, 18.8: how a listing ended, told by its last line.
use Rattle.std.specs.Prelude.{List, [], ◌∷◌, Option, Some, None}
use Rattle.fields.specs.declared.Cause.TheVariants.{NoRecord, BadTable}
use Rattle.lines.specs.declared.line.Line.{Line}
use Rattle.lines.specs.declared.line.Line.TheVariants as line
use Rattle.lines.specs.declared.ending.Ending.{Ending}
use Rattle.lines.specs.declared.ending.Ending.TheVariants as ending

-- what a line says of the end: only a last line says something
abbrev pub says : Line → Option Ending
says (line.Record n m) = None
says (line.Attribute a) = None
says (line.Part p) = None
says (line.Run r) = None
says (line.RunsRefused c) = None
says (line.End k) = Some ending.Whole
says (line.Stopped c k) = Some (ending.Stopped c)
says line.TableRefused = Some (ending.Refused BadTable)
says line.NoRecord = Some (ending.Refused NoRecord)

-- what the last of some lines says, of whatever kind they are, where the one before them says e
unfoldable pub said_last : {A : Type 0} → (A → Option Ending) → Option Ending → List A → Option Ending
said_last of_line e [] = e
said_last of_line e (l ∷ ls) = said_last of_line (of_line l) ls

abbrev pub ending_of : List Line → Option Ending
ending_of ls = said_last says None ls
