-- `merge`: which two tables are named, and what is answered.
use Rattle.std.specs.Prelude.{ℕ, ◌≡◌, ◌⊎◌, ◌&&◌, Bool, List, Option, Some, None, codes, is_some, option_map, Result, Ok, Err}
use Rattle.std.specs.Str.{bytes_eq}
use Rattle.clap.specs.Words.{found_of, first_value}
use Rattle.clap.specs.declared.parser.matches.ArgMatches.{ArgMatches}
use Rattle.fields.specs.Pick.{pick}
use Rattle.command.specs.MergeFailure.{status_of}
use Rattle.command.specs.Merging.{IsUnread, Merges}
use Rattle.command.specs.declared.merge_failure.MergeFailure.{MergeFailure}
use Rattle.command.specs.declared.merging.MergedTable.{MergedTable}
use Rattle.command.specs.declared.status.Status.{Status}
use Rattle.command.specs.declared.status.Status.TheVariants.{Whole, Usage, NotWritten}
use Rattle.nomutanku.specs.Answers.{IsWritten}
use Rattle.nomutanku.specs.declared.failed.Failed.{Failed}
use Rattle.nomutanku.specs.declared.merging.Names.{Names}

-- two names
abbrev pub Two : Type 0
Two = List ℕ × List ℕ

-- the two tables that are named; none where one is not, or where both are standard input
abbrev pub pair_of : Option (List ℕ) → Option (List ℕ) → Option Two
pair_of None second = None
pair_of (Some a) None = None
pair_of (Some a) (Some b) = pick (bytes_eq a (codes "-") && bytes_eq b (codes "-")) None (Some (a, b))

abbrev pub told_names : Option Names → Option Two
told_names = option_map (λ names. (names.first.now, names.second.now))

-- what is made of two inputs, unless one of them can't be read
abbrev pub IsMade : List ℕ → List ℕ → Result MergedTable MergeFailure → Type 0
IsMade s t (Ok made) = Merges s t (Ok made)
IsMade s t (Err why) = IsUnread why ⊎ Merges s t (Err why)

-- the status of a table that an output took, or did not
abbrev pub taken_status : Bool → Status
taken_status taken = pick taken Whole NotWritten

-- what is answered where this was written: standard output tells by an error that it takes no more
abbrev pub AnswersTaken : Result Bool Failed → Result Status Failed → Type 0
AnswersTaken (Ok taken) result = result ≡ Ok (taken_status taken)
AnswersTaken (Err failed) result = result ≡ Err failed

-- what is answered where this was made of two tables, and the table goes to a file that is named, or to standard
-- output: no table, for a reason; or a table, which an output took or did not
abbrev pub AnswersMade : Bool → Result MergedTable MergeFailure → Result Status Failed → Type 0
AnswersMade named (Err why) result = result ≡ Ok (status_of why)
AnswersMade named (Ok made) result = (taken : Result Bool Failed) × IsWritten named taken × AnswersTaken taken result

-- the same, of two inputs that the system knows
abbrev pub IsMerged : Bool → Result Status Failed → Type 0
IsMerged named result =
    (s t : List ℕ) × ((made : Result MergedTable MergeFailure) × IsMade s t made × AnswersMade named made result)

-- the same, of the words
abbrev pub AnswersPair : Option Two → Bool → Result Status Failed → Type 0
AnswersPair None named result = result ≡ Ok Usage
AnswersPair (Some names) named result = IsMerged named result

abbrev pub AnswersMerge : ArgMatches → Result Status Failed → Type 0
AnswersMerge options =
    let given = found_of options in
    AnswersPair (pair_of (first_value given (codes "first")) (first_value given (codes "second")))
    (is_some (first_value given (codes "table")))
