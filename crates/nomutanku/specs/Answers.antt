-- What the program answers.
use Rattle.std.specs.Prelude.{ℕ, ◌≡◌, ◌≢◌, ◌≤◌, ◌⊎◌, List, [], Option, Some, None, Result, Ok, Err, codes, unwrap_or, ⊤}
use Rattle.std.specs.Prelude.{Bool, IsTrue, ◌||◌, not}
use Rattle.clap.specs.Words.{IsAmong, fault_of}
use Rattle.clap.specs.declared.error.kind.ErrorKind.{ErrorKind}
use Rattle.clap.specs.declared.error.kind.ErrorKind.TheVariants as kind
use Rattle.clap.specs.declared.parser.matches.ArgMatches.{ArgMatches}
use Rattle.fields.specs.declared.Cause.{Cause}
use Rattle.extract.specs.declared.tally.Extracted.{Extracted}
use Rattle.command.specs.Explain.{explained}
use Rattle.command.specs.Extraction.{refused_of}
use Rattle.command.specs.Make.{Extracts}
use Rattle.command.specs.Reason as reasons
use Rattle.command.specs.Status.{code_of}
use Rattle.command.specs.declared.explain.TheConstants.{CAUSES}
use Rattle.command.specs.declared.extraction.Extraction.{Extraction}
use Rattle.command.specs.declared.make.Made.{Made}
use Rattle.command.specs.declared.reason.Reason.{Reason}
use Rattle.command.specs.declared.status.Status.{Status}
use Rattle.command.specs.declared.status.Status.TheVariants.{Whole, Unreadable, Usage, NotWritten}
use Rattle.nomutanku.specs.CommandLine.{command_line}
use Rattle.nomutanku.specs.Wishes.{Counts, value_of}
use Rattle.nomutanku.specs.declared.failed.Failed.{Failed}
use Rattle.nomutanku.specs.declared.failed.Failed.TheVariants.{Memory, Output}

-- the status of a failure
abbrev pub status_of : Failed → Status
status_of Memory = Unreadable
status_of (Output error) = NotWritten

-- a text was printed, or standard output took no more
abbrev pub IsPrinted : Result Status Failed → Type 0
IsPrinted (Ok status) = status ≡ Whole
IsPrinted (Err Memory) = ⊥
IsPrinted (Err (Output error)) = ⊤

-- what is answered to words that clap refuses by an error of this kind: help and the version are asked for, and
-- anything else is wrong
abbrev pub Tells : ErrorKind → Result Status Failed → Type 0
Tells k result =
    (k ≡ kind.OutOfMemory → result ≡ Err Memory)
    × ((k ≡ kind.DisplayHelp) ⊎ (k ≡ kind.DisplayVersion) → IsPrinted result)
    × (k ≢ kind.OutOfMemory → k ≢ kind.DisplayHelp → k ≢ kind.DisplayVersion → result ≡ Ok Usage)

-- the same, of the words: by one of the kinds that clap has for them, unless memory runs out
abbrev pub Answers : List (List ℕ) → Result Status Failed → Type 0
Answers words result =
    fault_of command_line words ≢ []
    → (result ≡ Err Memory) ⊎ ((k : ErrorKind) × IsAmong k (fault_of command_line words) × Tells k result)

-- inputs were told: the status is none of a command line that is wrong, nor of an output that failed
abbrev pub IsTold : Result Status Failed → Type 0
IsTold (Ok status) = code_of status ≤ code_of Unreadable
IsTold (Err failed) = ⊤

-- the status of a table that was written: whole, unless a record was refused
abbrev pub status_by : Option Reason → Status
status_by None = Whole
status_by (Some reason) = reasons.status_of reason

abbrev pub reported : Extraction → Extracted → Status
reported q x = status_by (refused_of q x)

-- what is answered where this was made of an extract: no table, for a reason; or a table that was written, or that an
-- output did not take
abbrev pub AnswersBy : Extraction → Result Made Reason → Result Status Failed → Type 0
AnswersBy q (Err why) result = result ≡ Ok (reasons.status_of why)
AnswersBy q (Ok made) (Ok status) = (status ≡ reported q made.extracted) ⊎ (status ≡ NotWritten)
AnswersBy q (Ok made) (Err failed) = ⊤

-- the same, of what is asked for, by an input that the system knows
abbrev pub IsExtracted : Extraction → Result Status Failed → Type 0
IsExtracted q result =
    (front part : List ℕ) × ((made : Result Made Reason) × Extracts q front (λ n. part) made × AnswersBy q made result)

-- a table that was written to a file, or not; or to standard output, which tells by an error that it takes no more
abbrev pub IsWritten : Bool → Result Bool Failed → Type 0
IsWritten named (Ok written) = IsTrue (named || written)
IsWritten named (Err Memory) = ⊤
IsWritten named (Err (Output error)) = IsTrue (not named)

-- a number's cause is printed, and where it has none the command line is wrong
abbrev pub Explains : Option Cause → Result Status Failed → Type 0
Explains (Some cause) result = IsPrinted result
Explains None result = result ≡ Ok Usage

-- `explain N`
abbrev pub ExplainsNumber : ArgMatches → Result Status Failed → Type 0
ExplainsNumber options result =
    (given : Option ℕ) × Counts (value_of options (codes "number")) given
    × Explains (explained CAUSES (unwrap_or given 0)) result
