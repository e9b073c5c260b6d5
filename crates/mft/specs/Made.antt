-- The table that a record of a raw $MFT is listed by.
use Rattle.std.specs.Prelude.{ℕ, ◌≡◌, List, [], ◌∷◌, Some}
use Rattle.fields.specs.Answer.{gives}
use Rattle.fields.specs.declared.RecordNumber.{RecordNumber}
use Rattle.table.specs.Check.{table_of}
use Rattle.table.specs.Held.{base_of}
use Rattle.table.specs.declared.check.TableHeader.{TableHeader}
use Rattle.extract.specs.Extracted.{table_of_extract, extract_of}
use Rattle.extract.specs.declared.Extract.{Extract}
use Rattle.extract.specs.declared.numbers.Numbers.{Numbers}
use Rattle.extract.specs.declared.numbers.Numbers.TheVariants as numbers
use Rattle.extract.specs.declared.tally.Extracted.{Extracted}

-- a table whose records have so many bytes, with a base record
abbrev pub IsBase : List ℕ → ℕ → RecordNumber → List ℕ → Type 0
IsBase t size n b =
    ((h : TableHeader) × (table_of t ≡ gives h) × (h.size ≡ size))
    × (base_of t ≡ Some (record { number = n; bytes = b }))

-- the same extract, with the record with a number for its base record
abbrev pub IsBased : Extract → RecordNumber → Extract → Type 0
IsBased y n x = (x.bytes.now ≡ y.bytes.now) × (x.size ≡ y.size) × (x.numbers ≡ y.numbers) × (x.base ≡ Some n)

-- the table that is written of an extract into a buffer of m bytes
abbrev pub IsWritten : Extract → ℕ → List ℕ → Type 0
IsWritten x m t = (r : Extracted) × (extract_of x m ≡ gives r) × (t ≡ table_of_extract x)

abbrev pub IsTable : Extract → RecordNumber → ℕ → List ℕ → Type 0
IsTable y n m t = (x : Extract) × IsBased y n x × IsWritten x m t

-- the numbers of an extract's records: of a single one the first
abbrev pub AreNumbers : Numbers → List RecordNumber → Type 0
AreNumbers (numbers.From n) ns = ns ≡ n ∷ []
AreNumbers (numbers.Listed listed) ns = ns ≡ listed.now

-- raw records of one size, one behind another, with their numbers
abbrev pub IsOf : ℕ → List ℕ → List RecordNumber → Extract → Type 0
IsOf size raw ns y = (y.bytes.now ≡ raw) × (y.size ≡ size) × AreNumbers y.numbers ns

-- the table of raw records of one size, one behind another, with their numbers, whose base record has number n
abbrev pub IsMade : ℕ → List ℕ → List RecordNumber → RecordNumber → ℕ → List ℕ → Type 0
IsMade size raw ns n m t =
    (y : Extract) × (y.bytes.now ≡ raw) × (y.size ≡ size) × AreNumbers y.numbers ns × IsTable y n m t
