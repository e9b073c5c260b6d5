-- Why an input is not there to be merged. Only contracts of this crate's own speak of it.
use Rattle.command.specs.declared.merge_failure.MergeFailure.{MergeFailure}
use Rattle.command.specs.declared.merge_failure.MergeFailure.TheVariants.{Unreadable, OutOfMemory}
use Rattle.command.specs.declared.merge_failure.Side.{Side}
use Rattle.command.specs.declared.reason.Reason.{Reason}
use Rattle.command.specs.declared.reason.Reason.TheVariants as reason

-- an input that can't be read, or no memory for it
abbrev pub unread_of : Side → Reason → MergeFailure
unread_of s (reason.Unreadable error) = Unreadable s error
unread_of s why = OutOfMemory
