-- How a run ends, on this input: the whole listing was written, and its outcome is told; nothing, where memory ran out
-- or the input could not be read; a front of the listing, where a write failed.
use Rattle.std.specs.Prelude.{◌≡◌, ◌≢◌, ℕ, List, Option, Result, Ok, Err}
use Rattle.std.specs.Io.KnownBytes.{Appends, Keeps}
use Rattle.std.specs.IoError.{error_kind}
use Rattle.std.specs.declared.io.Error.{Error}
use Rattle.std.specs.declared.io.ErrorKind.{ErrorKind}
use Rattle.std.specs.declared.io.ErrorKind.TheVariants as kind
use Rattle.lines.specs.Line.{lines_text}
use Rattle.lines.specs.Went.{StopsWithin}
use Rattle.listing.specs.Tells.{lines_of, Tells}
use Rattle.listing.specs.declared.failed.Failed.{Failed}
use Rattle.listing.specs.declared.failed.Failed.TheVariants.{OutOfMemory, Read, Write}
use Rattle.listing.specs.declared.outcome.Outcome.{Outcome}

-- a longer input than a table may be is known by one byte more
abbrev pub most_read : ℕ
most_read = 65537

abbrev pub Ran : List ℕ → Option (List ℕ) → Option (List ℕ) → Result Outcome Failed → Type 0
Ran input old new (Ok o) = Appends old new (lines_text (lines_of input)) × Tells input o
Ran input old new (Err OutOfMemory) = Keeps old new
Ran input old new (Err (Read e)) = Keeps old new
Ran input old new (Err (Write e)) = StopsWithin old new (lines_text (lines_of input))

-- what a failed read is told as
abbrev pub FailedRead : ErrorKind → Error → Failed → Type 0
FailedRead k e OutOfMemory = k ≡ kind.OutOfMemory
FailedRead k e (Read f) = (k ≢ kind.OutOfMemory) × (f ≡ e)
FailedRead k e (Write f) = ⊥

-- whether it was no write
abbrev pub IsUnread : Failed → Type 0
IsUnread OutOfMemory = Unit
IsUnread (Read e) = Unit
IsUnread (Write e) = ⊥

abbrev pub IsClosedPipe : Failed → Type 0
IsClosedPipe OutOfMemory = ⊥
IsClosedPipe (Read e) = ⊥
IsClosedPipe (Write e) = error_kind e ≡ kind.BrokenPipe
