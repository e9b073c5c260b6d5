-- The exit status of a run: how the listing ended, or that there is none, or no whole one.
use Rattle.std.specs.Prelude.{ℕ, Result, Ok, Err}
use Rattle.lines.specs.declared.ending.Ending.TheVariants.{Whole, Stopped, Refused}
use Rattle.listing.specs.declared.failed.Failed.{Failed}
use Rattle.listing.specs.declared.failed.Failed.TheVariants.{OutOfMemory, Read, Write}
use Rattle.listing.specs.declared.outcome.Outcome.{Outcome}
use Rattle.listing.specs.declared.outcome.Outcome.TheVariants.{Listed, EmptyInput}

abbrev pub status_of : Result Outcome Failed → ℕ
status_of (Ok (Listed Whole)) = 0
status_of (Ok (Listed (Stopped c))) = 1
status_of (Ok (Listed (Refused c))) = 2
status_of (Ok EmptyInput) = 2
status_of (Err OutOfMemory) = 3
status_of (Err (Read e)) = 3
status_of (Err (Write e)) = 74
