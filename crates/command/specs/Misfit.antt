-- Why bytes are no record, told apart for people, where a refusal has 1, 2 or 27 (RULES 3).
use Rattle.std.specs.Prelude.{ℕ, List, Bool, true, false, Option, Some, None, length, take, eqb, leb}
use Rattle.fields.specs.Pick.{pick}
use Rattle.fields.specs.Length.{good_length}
use Rattle.record.specs.Open.{is_file}
use Rattle.table.specs.Fault.{fault_of}
use Rattle.table.specs.declared.faults.Fault.{Fault}
use Rattle.table.specs.declared.faults.Fault.TheVariants.{
  HeaderCut,
  RowCount,
  RecordSize,
  DirectoryBegin,
  DirectoryEnd,
  RecordsBegin,
  BaseRow,
  RowNumber,
  RowOrder,
  RowBegin,
  RowEnd,
}
use Rattle.command.specs.Asked.{record_reach}
use Rattle.command.specs.declared.misfit.Misfit.{Misfit}
use Rattle.command.specs.declared.misfit.Misfit.TheVariants.{Empty, Table, Long, Length, NotFile, UsedSize}

-- bytes with such a fault are a table, or would be one if they went on: they end before its records do
abbrev pub begins_table : Option Fault → Bool
begins_table None = true
begins_table (Some (RecordsBegin n)) = true
begins_table (Some (RowEnd n)) = true
begins_table (Some (HeaderCut n)) = false
begins_table (Some (RowCount n)) = false
begins_table (Some (RecordSize n)) = false
begins_table (Some (DirectoryBegin n)) = false
begins_table (Some (DirectoryEnd n)) = false
begins_table (Some (BaseRow n)) = false
begins_table (Some (RowNumber n)) = false
begins_table (Some (RowOrder n)) = false
begins_table (Some (RowBegin n)) = false

-- the first that holds; by as many bytes as are read, where it is of what they hold. What is left has a record's length
-- and begins with FILE, so its used size refuses it
unfoldable pub misfit_of : List ℕ → Misfit
misfit_of s =
    pick (eqb (length s) 0) Empty
    (pick (begins_table (fault_of (take record_reach s))) Table
    (pick (leb record_reach (length s)) Long
    (pick (good_length (length s)) (pick (is_file s) UsedSize NotFile) (Length (length s)))))
