-- An input's reason is none of a command line that is wrong, and nothing is written of one that can't be read.
use Rattle.std.proofs.Common.{ℕ, List, [], ◌≡◌, ◌≤◌, Option, Some, Result, Ok, inr, arith}
use Rattle.std.proofs.KnownBytes.{Keeps-refl}
use Rattle.report.specs.declared.form.Form.{Form}
use Rattle.command.specs.Read.{IsUnread}
use Rattle.command.specs.Run.{Ran}
use Rattle.command.specs.declared.asked.Asked.{Asked}
use Rattle.command.specs.Status.{code_of}
use Rattle.command.specs.Reason.{status_of}
use Rattle.command.specs.declared.reason.Reason.{Reason}
use Rattle.command.specs.declared.reason.Reason.TheVariants.{
  Stopped,
  Empty,
  RawRecord,
  NoTable,
  NoBaseRow,
  NoRecord,
  Unfit,
  SizeUntold,
  Unmade,
  RecordRefused,
  Absent,
  Lost,
  Unlisted,
  Unsearched,
  Unreadable,
  OutOfMemory,
}

pub of_reason : (r : Reason) → code_of (status_of r) ≤ 3
of_reason (Stopped cause) = omega arith
of_reason Empty = omega arith
of_reason RawRecord = omega arith
of_reason (NoTable fault) = omega arith
of_reason NoBaseRow = omega arith
of_reason (NoRecord n) = omega arith
of_reason (Unfit misfit cause) = omega arith
of_reason SizeUntold = omega arith
of_reason (Unmade why) = omega arith
of_reason (RecordRefused first) = omega arith
of_reason (Absent n why) = omega arith
of_reason (Lost n of why) = omega arith
of_reason (Unlisted n cause) = omega arith
of_reason (Unsearched n cause) = omega arith
of_reason (Unreadable error) = omega arith
of_reason OutOfMemory = omega arith

pub unread : {E : Type 0} (a : Asked) (f : Form) (old : Option (List ℕ)) (reason : Reason)
    (r : Result (Option Reason) E) → r ≡ Ok (Some reason) → IsUnread reason
    → (bytes : List ℕ) × Ran a f bytes old old r
unread a f old reason r e u = ([], rw e (inr (Keeps-refl old, u)))
