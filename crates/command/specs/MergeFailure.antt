-- Why two tables are not merged, and the status that follows.
use Rattle.command.specs.declared.status.Status.{Status}
use Rattle.command.specs.declared.status.Status.TheVariants as status
use Rattle.command.specs.declared.merge_failure.MergeFailure.{MergeFailure}
use Rattle.command.specs.declared.merge_failure.MergeFailure.TheVariants.{
  NoTable,
  Sizes,
  Clash,
  TooManyRows,
  Unreadable,
  OutOfMemory,
}

-- the status that follows
abbrev pub status_of : MergeFailure → Status
status_of (NoTable side flaw) = status.Refused
status_of (Sizes m n) = status.Refused
status_of (Clash n) = status.Refused
status_of TooManyRows = status.Refused
status_of (Unreadable side error) = status.Unreadable
status_of OutOfMemory = status.Unreadable
