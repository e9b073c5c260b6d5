-- What only the functions of this crate say to one another.
use Rattle.std.specs.Prelude.{ℕ, Result, Ok, Err}
use Rattle.fields.specs.Answer.{Answer, gives, refuses, refusal}
use Rattle.fields.specs.declared.RecordNumber.{RecordNumber}
use Rattle.fields.specs.declared.Cause.{Cause}
use Rattle.runs.specs.declared.run.Run.{Run}
use Rattle.runs.specs.declared.run.Carried.{Carried}

-- a run with what goes on from it, or why there is none, told of a record and a place
abbrev pub told_placed : RecordNumber → ℕ → Result (Run × Carried) Cause → Answer Run
told_placed file place (Ok r) = gives r.0
told_placed file place (Err cause) = refuses (refusal cause file place)
