-- Why what is asked of an input is not told to its end.
use Rattle.std.specs.Prelude.{ℕ, List, Option, Some, None, length, eqb}
use Rattle.fields.specs.Pick.{pick}
use Rattle.fields.specs.declared.Cause.{Cause}
use Rattle.fields.specs.declared.RecordNumber.{RecordNumber}
use Rattle.lines.specs.declared.ending.Ending.{Ending}
use Rattle.lines.specs.declared.ending.Ending.TheVariants as ending
use Rattle.record.specs.Open.{is_file}
use Rattle.table.specs.Fault.{fault_of}
use Rattle.table.specs.declared.faults.Fault.{Fault}
use Rattle.command.specs.Misfit.{misfit_of}
use Rattle.command.specs.declared.asked.Asked.{Asked}
use Rattle.command.specs.declared.asked.Asked.TheVariants as asked
use Rattle.command.specs.declared.status.Status.{Status}
use Rattle.command.specs.declared.status.Status.TheVariants as status
use Rattle.command.specs.declared.reason.Reason.{Reason}
use Rattle.command.specs.declared.reason.Reason.TheVariants.{
  Stopped,
  Empty,
  RawRecord,
  NoTable,
  NoBaseRow,
  NoRecord,
  Unfit,
  SizeUntold,
  Unmade,
  RecordRefused,
  Absent,
  Lost,
  Unlisted,
  Unsearched,
  Unreadable,
  OutOfMemory,
}

-- the status that follows
abbrev pub status_of : Reason → Status
status_of (Stopped cause) = status.Stopped
status_of Empty = status.Refused
status_of RawRecord = status.Refused
status_of (NoTable fault) = status.Refused
status_of NoBaseRow = status.Refused
status_of (NoRecord n) = status.Refused
status_of (Unfit misfit cause) = status.Refused
status_of SizeUntold = status.Refused
status_of (Unmade why) = status.Refused
status_of (RecordRefused first) = status.Stopped
status_of (Absent n why) = status.Refused
status_of (Lost n of why) = status.Stopped
status_of (Unlisted n cause) = status.Stopped
status_of (Unsearched n cause) = status.Stopped
status_of (Unreadable error) = status.Unreadable
status_of OutOfMemory = status.Unreadable

-- a table is refused by its first fault; one without a fault, since it lacks what is wanted: the record with a number,
-- or a base row
abbrev pub lacking : Option RecordNumber → Reason
lacking None = NoBaseRow
lacking (Some n) = NoRecord n

abbrev pub faulty : Option Fault → Option RecordNumber → Reason
faulty (Some fault) wanted = NoTable fault
faulty None wanted = lacking wanted

-- two kinds of bytes that are no table have words of their own
unfoldable pub table_reason : List ℕ → Option RecordNumber → Reason
table_reason t wanted =
    pick (eqb (length t) 0) Empty
    (pick (is_file t) RawRecord
    (faulty (fault_of t) wanted))

-- why what is asked of these bytes is refused; rows are refused by a fault alone, since they lack nothing
unfoldable pub refused_reason : Asked → List ℕ → Cause → Reason
refused_reason (asked.Listing wanted) t cause = table_reason t wanted
refused_reason asked.Rows t cause = table_reason t None
refused_reason (asked.Record n) t cause = Unfit (misfit_of t) cause

-- why a report that ended so is not whole
abbrev pub ending_reason : Asked → List ℕ → Ending → Option Reason
ending_reason a t ending.Whole = None
ending_reason a t (ending.Stopped cause) = Some (Stopped cause)
ending_reason a t (ending.Refused cause) = Some (refused_reason a t cause)
