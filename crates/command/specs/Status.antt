-- Exit statuses: 64 and 74 are those that sysexits.h has for a bad command line and a failed output.
use Rattle.std.specs.Prelude.{ℕ}
use Rattle.command.specs.declared.status.Status.{Status}
use Rattle.command.specs.declared.status.Status.TheVariants.{Whole, Stopped, Refused, Unreadable, Usage, NotWritten}

abbrev pub code_of : Status → ℕ
code_of Whole = 0
code_of Stopped = 1
code_of Refused = 2
code_of Unreadable = 3
code_of Usage = 64
code_of NotWritten = 74
