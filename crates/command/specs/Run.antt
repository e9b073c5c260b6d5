-- What is written of an input, and the reason that is told.
use Rattle.std.specs.Prelude.{ℕ, ◌≡◌, ◌⊎◌, List, Option, Some, None, Result, Ok, Err}
use Rattle.std.specs.Io.KnownBytes.{Appends, Keeps}
use Rattle.lines.specs.Went.{StopsWithin}
use Rattle.lines.specs.declared.ending.Ending.{Ending}
use Rattle.report.specs.Form.{lines_text}
use Rattle.report.specs.Ending.{ending_of}
use Rattle.report.specs.declared.form.Form.{Form}
use Rattle.command.specs.Asked.{asked_lines}
use Rattle.command.specs.Reason.{ending_reason}
use Rattle.command.specs.Read.{IsUnread}
use Rattle.command.specs.declared.asked.Asked.{Asked}
use Rattle.command.specs.declared.reason.Reason.{Reason}

-- all that is asked of these bytes was written, and the reason is that of how it ends
abbrev pub Tells : Asked → Form → List ℕ → Option (List ℕ) → Option (List ℕ) → Option Reason → Type 0
Tells a f t old new reason =
    Appends old new (lines_text f (asked_lines a t))
    × ((e : Ending) × (ending_of (asked_lines a t) ≡ Some e) × (reason ≡ ending_reason a t e))

-- nothing was written, and the reason says that the input is not there to be judged
abbrev pub Skips : Option (List ℕ) → Option (List ℕ) → Option Reason → Type 0
Skips old new None = ⊥
Skips old new (Some reason) = Keeps old new × IsUnread reason

-- of an input: told, or skipped; or a write failed, behind a front of what is asked
abbrev pub Ran : {E : Type 0} → Asked → Form → List ℕ → Option (List ℕ) → Option (List ℕ)
    → Result (Option Reason) E → Type 0
Ran a f t old new (Ok reason) = Tells a f t old new reason ⊎ Skips old new reason
Ran a f t old new (Err error) = StopsWithin old new (lines_text f (asked_lines a t))
