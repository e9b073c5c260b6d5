-- Why bytes that are to be merged are no table, told apart for people, where a refusal has 21 and a place (RULES 27.2).
use Rattle.std.specs.Prelude.{ℕ, List, [], ◌∷◌, Option, Some, None, option_map, length, eqb, codes}
use Rattle.fields.specs.Pick.{pick}
use Rattle.record.specs.Open.{is_file}
use Rattle.table.specs.Fault.{fault_of}
use Rattle.table.specs.declared.faults.Fault.{Fault}
use Rattle.table.specs.declared.faults.Fault.TheVariants as fault
use Rattle.text.specs.Decimal.{words}
use Rattle.command.specs.declared.flaw.Flaw.{Flaw}
use Rattle.command.specs.declared.flaw.Flaw.TheVariants.{Empty, RawRecord, Row, Header}

-- a fault of a row is told by the row's place
abbrev pub flaw_by : Fault → Flaw
flaw_by (fault.RowNumber place) = Row place
flaw_by (fault.RowOrder place) = Row place
flaw_by (fault.RowBegin place) = Row place
flaw_by (fault.RowEnd place) = Row place
flaw_by (fault.HeaderCut n) = Header (fault.HeaderCut n)
flaw_by (fault.RowCount n) = Header (fault.RowCount n)
flaw_by (fault.RecordSize n) = Header (fault.RecordSize n)
flaw_by (fault.DirectoryBegin n) = Header (fault.DirectoryBegin n)
flaw_by (fault.DirectoryEnd n) = Header (fault.DirectoryEnd n)
flaw_by (fault.RecordsBegin n) = Header (fault.RecordsBegin n)
flaw_by (fault.BaseRow n) = Header (fault.BaseRow n)

-- two kinds of bytes that are no table have words of their own
abbrev pub flaw_told : List ℕ → Fault → Flaw
flaw_told t fault = pick (eqb (length t) 0) Empty (pick (is_file t) RawRecord (flaw_by fault))

unfoldable pub flaw_of : List ℕ → Option Flaw
flaw_of t = option_map (flaw_told t) (fault_of t)

-- its words; those of a header's fault are the fault's own
abbrev pub flaw_text : Flaw → Option (List ℕ)
flaw_text Empty = Some (codes "it is empty")
flaw_text RawRecord =
    Some (codes "it begins with FILE, as raw records do: nomutanku extract makes a table of them")
flaw_text (Row place) = Some (words "row at" (place ∷ []))
flaw_text (Header fault) = None
