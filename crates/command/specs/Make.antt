-- The table that is made of an extract (RULES 23), or why none is.
use Rattle.std.specs.Prelude.{ℕ, ◌≡◌, ◌⊎◌, List, length, false, None, Result, Ok, Err}
use Rattle.fields.specs.Answer.{gives, refuses}
use Rattle.fields.specs.declared.RecordNumber.{RecordNumber}
use Rattle.fields.specs.declared.Refusal.{Refusal}
use Rattle.extract.specs.Size.{whole_records}
use Rattle.extract.specs.Extracted.{table_of_extract, answer_of}
use Rattle.extract.specs.declared.Extract.{Extract}
use Rattle.extract.specs.declared.numbers.Numbers.TheVariants.{From}
use Rattle.command.specs.Extraction.{first_of, size_of}
use Rattle.command.specs.Read.{IsUnread}
use Rattle.command.specs.Unmade.{by_sizes, by_refusal}
use Rattle.command.specs.declared.extraction.Extraction.{Extraction}
use Rattle.command.specs.declared.make.Made.{Made}
use Rattle.command.specs.declared.reason.Reason.{Reason}
use Rattle.command.specs.declared.reason.Reason.TheVariants.{Unmade}

-- nothing is made, since the input is not there to be judged
abbrev pub IsSkipped : Result Made Reason → Type 0
IsSkipped (Ok made) = ⊥
IsSkipped (Err why) = IsUnread why

-- an extract with these bytes, record size and first number
abbrev pub IsOf : ℕ → RecordNumber → List ℕ → Extract → Type 0
IsOf size first s x = (x.bytes.now ≡ s) × (x.size ≡ size) × (x.numbers ≡ From first) × (x.base ≡ None)

-- what is made of an extract: the table of its rows and what is reported, or why the call refuses it
abbrev pub Fills : Extract → Result Made Reason → Type 0
Fills x (Ok made) =
    (answer_of x ≡ gives made.extracted) × (made.table.items ≡ table_of_extract x)
Fills x (Err why) = (r : Refusal) × (answer_of x ≡ refuses r) × (why ≡ Unmade (by_refusal r))

-- 1, for the record size or for a broken last record
abbrev pub IsBroken : ℕ → List ℕ → Result Made Reason → Type 0
IsBroken size s result = (whole_records size s ≡ false) × (result ≡ Err (Unmade (by_sizes size (length s))))

-- what is made of bytes, with records of a size, the first of which has a number
abbrev pub Makes : ℕ → RecordNumber → List ℕ → Result Made Reason → Type 0
Makes size first s result =
    IsSkipped result ⊎ (IsBroken size s result ⊎ ((x : Extract) × IsOf size first s x × Fills x result))

-- the same by the record size, of the part that it tells; or why there is none
abbrev pub MakesBy : Result ℕ Reason → RecordNumber → (ℕ → List ℕ) → Result Made Reason → Type 0
MakesBy (Ok size) first part result = Makes size first (part size) result
MakesBy (Err why) first part result = IsSkipped result ⊎ (result ≡ Err why)

-- what is made of what is asked for, by an input's front
abbrev pub Extracts : Extraction → List ℕ → (ℕ → List ℕ) → Result Made Reason → Type 0
Extracts q front part result = MakesBy (size_of q.size front) (first_of q) part result
