-- `list` of records of a raw $MFT: what its options ask for, which command lines are wrong, and what is answered.
use Rattle.std.specs.Prelude.{ℕ, ◌≡◌, ◌⊎◌, List, [], ◌∷◌, map, Bool, true, false, ◌||◌, is_some, Option, Some, None}
use Rattle.std.specs.Prelude.{codes, option_map, unwrap_or, Result, Ok, Err, All}
use Rattle.std.specs.Option.{option_map_or}
use Rattle.std.specs.Borrow.{Bor}
use Rattle.std.specs.Str.{bytes_eq}
use Rattle.std.specs.Str.Parse.{digits_value, without_leading_plus}
use Rattle.clap.specs.Words.{found_of, first_value, matched_of, raw_values}
use Rattle.clap.specs.declared.parser.matches.ArgMatches.{ArgMatches}
use Rattle.fields.specs.Pick.{pick}
use Rattle.fields.specs.declared.RecordNumber.{RecordNumber}
use Rattle.command.specs.Status.{code_of}
use Rattle.command.specs.declared.extraction.Extraction.{Extraction}
use Rattle.command.specs.declared.status.Status.{Status}
use Rattle.command.specs.declared.status.Status.TheVariants.{Usage, Refused}
use Rattle.command.specs.declared.reason.Reason.{Reason}
use Rattle.command.specs.declared.reason.Reason.TheVariants.{Stopped}
use Rattle.mft.specs.declared.manner.Manner.{Manner}
use Rattle.nomutanku.specs.Answers.{IsTold}
use Rattle.nomutanku.specs.Wishes.{value_of, IsNumber, Counts, Flags, Forms}
use Rattle.nomutanku.specs.declared.failed.Failed.{Failed}
use Rattle.nomutanku.specs.declared.failed.Failed.TheVariants.{Memory}
use Rattle.nomutanku.specs.declared.request.Request.{Request}
use Rattle.nomutanku.specs.declared.request.Wrong.{Wrong}
use Rattle.nomutanku.specs.declared.request.Wrong.TheVariants.{NoMft, Base, StandardInput, Words, NoWords}

-- a text that is lent, if it is there, and texts
abbrev pub text_of : Option (Bor (List ℕ)) → Option (List ℕ)
text_of = option_map (λ text. text.now)

abbrev pub texts_of : Bor (List (Bor (List ℕ))) → List (List ℕ)
texts_of texts = map (λ text. text.now) texts.now

abbrev pub lent_of : Result (Bor (List ℕ)) Wrong → Result (List ℕ) Wrong
lent_of (Ok text) = Ok text.now
lent_of (Err wrong) = Err wrong

-- the words behind the options
abbrev pub words_of : ArgMatches → List (List ℕ)
words_of options = option_map_or raw_values (matched_of (found_of options) (codes "inputs")) []

-- what the options ask of a raw $MFT: the file, whether a record is named by `--base`, how the records stand in it,
-- whether it is gone over and for which name, and how a record is told
abbrev pub AsksMft : ArgMatches → Request → Type 0
AsksMft options q =
    (text_of q.mft ≡ first_value (found_of options) (codes "mft"))
    × (q.base ≡ is_some (matched_of (found_of options) (codes "base")))
    × Counts (value_of options (codes "size")) q.size
    × Counts (value_of options (codes "first")) q.first
    × Flags (value_of options (codes "all")) q.all
    × (text_of q.find ≡ first_value (found_of options) (codes "find"))
    × Flags (value_of options (codes "names")) q.names
    × Flags (value_of options (codes "strict")) q.strict
    × Forms (value_of options (codes "json")) q.form
    × (texts_of q.words ≡ words_of options)

-- whether any of it speaks of a raw $MFT
abbrev pub speaks_of_mft : Request → Bool
speaks_of_mft q =
    is_some q.mft
    || (is_some q.size || (is_some q.first || (q.all || (is_some q.find || (q.names || q.strict)))))

abbrev pub SpeaksOfMft : ArgMatches → Bool → Type 0
SpeaksOfMft options says = (q : Request) × AsksMft options q × (says ≡ speaks_of_mft q)

-- how the records stand in the file
abbrev pub extraction_of : Request → Extraction
extraction_of q = record { size = q.size; first = record { 0 = unwrap_or q.first 0 }; from = 0; count = None }

-- how a record is listed
abbrev pub manner_of : Request → Manner
manner_of q = record { form = q.form; named = q.names }

-- whether all of its base records in use are gone over
abbrev pub goes_over_all : Request → Bool
goes_over_all q = q.all || is_some q.find

-- what is wrong with words beside what goes over all, or where nothing does
abbrev pub wrong_words : Bool → List (List ℕ) → Option Wrong
wrong_words true [] = None
wrong_words true (word ∷ words) = Some Words
wrong_words false [] = Some NoWords
wrong_words false (word ∷ words) = None

-- the file whose records are listed, or what is wrong with the command line: no file is named, or standard input, or a
-- record by `--base`, or words, or none
abbrev pub checked_words : List ℕ → Option Wrong → Result (List ℕ) Wrong
checked_words name None = Ok name
checked_words name (Some wrong) = Err wrong

abbrev pub checked_of : Request → Option (List ℕ) → Result (List ℕ) Wrong
checked_of q None = Err NoMft
checked_of q (Some name) =
    pick q.base (Err Base) (pick (bytes_eq name (codes "-")) (Err StandardInput)
    (checked_words name (wrong_words (goes_over_all q) (texts_of q.words))))

-- the number that a word says
abbrev pub said_by : List ℕ → RecordNumber
said_by word = record { 0 = digits_value 10 (without_leading_plus word) }

-- each word says a number
abbrev pub AreNumbers : List (Bor (List ℕ)) → Type 0
AreNumbers words = All (λ w. IsNumber w.now) words

-- each word says a number, and these are they
abbrev pub Say : List (Bor (List ℕ)) → List RecordNumber → Type 0
Say words ns = AreNumbers words × (ns ≡ map (λ w. said_by w.now) words)

-- words that are to name records: they are listed, or the words are wrong, unless memory runs out
abbrev pub AnswersWords : List (Bor (List ℕ)) → Result Status Failed → Type 0
AnswersWords words result =
    (AreNumbers words → IsTold result)
    × ((AreNumbers words → ⊥) → (result ≡ Ok Usage) ⊎ (result ≡ Err Memory))

-- whether a record's lines were written, by the reason that is told of it
abbrev pub is_listed : Option Reason → Bool
is_listed None = true
is_listed (Some (Stopped cause)) = true
is_listed (Some reason) = false

-- the code of the status that follows from all of them: none where none was found of a file with the name
abbrev pub unfound_code : Bool → Bool → ℕ
unfound_code true false = code_of Refused
unfound_code wanted found = 0

-- what is answered to a command line that is wrong, and to any other
abbrev pub AnswersChecked : Request → Result (List ℕ) Wrong → Result Status Failed → Type 0
AnswersChecked q (Err wrong) result = result ≡ Ok Usage
AnswersChecked q (Ok name) result = AnswersWords q.words.now result

abbrev pub AnswersRequest : Request → Result Status Failed → Type 0
AnswersRequest q = AnswersChecked q (checked_of q (text_of q.mft))

abbrev pub AnswersMft : ArgMatches → Result Status Failed → Type 0
AnswersMft options result = (q : Request) × AsksMft options q × AnswersRequest q result
