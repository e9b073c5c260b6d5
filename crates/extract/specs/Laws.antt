-- RULES 23: what holds of extracts; src/laws.rt has the functions whose contracts these are.
use Rattle.std.specs.Prelude.{ℕ, true, ◌+◌, ◌*◌, ◌<◌, ◌≤◌, ◌≡◌, ◌⊎◌, List, ◌++◌, length, get_or}
use Rattle.std.specs.Prelude.{Option, Some, None, option_map}
use Rattle.fields.specs.Answer.{gives, refuses}
use Rattle.fields.specs.declared.RecordNumber.{RecordNumber}
use Rattle.record.specs.Open.{is_file}
use Rattle.table.specs.Layout.{header_size, row_size}
use Rattle.table.specs.Check.{table_of, malformed}
use Rattle.table.specs.Held.{Held, held_of, record_of, base_of}
use Rattle.written.specs.Laws.{numbers_of}
use Rattle.extract.specs.Numbers.{listed_at, numbers_risen}
use Rattle.extract.specs.Fixup.{array_at, array_count, array_end, pair_count, pair_at, kept_at, good_array, fixed_up}
use Rattle.extract.specs.Fixup.{Verdict, left_out, refused, sound, verdict_of}
use Rattle.extract.specs.Records.{record_count, verdict_at, number_at, rows_of}
use Rattle.extract.specs.Base.{base_in}
use Rattle.extract.specs.Extracted.{table_of_extract, extract_of, answer_of, room_of}
use Rattle.extract.specs.Protect.{protected}
use Rattle.extract.specs.declared.Extract.{Extract}
use Rattle.extract.specs.declared.tally.Extracted.{Extracted}

-- RULES 23.9: the numbers of an extract's records rise from record to record
abbrev pub NumbersRise : Type 0
NumbersRise = (x : Extract) (i j : ℕ) → i < j → j < record_count x → (number_at x i).0 < (number_at x j).0

-- whether the first k numbers of a list rise, each above the one before
abbrev pub RisesTo : List RecordNumber → ℕ → Type 0
RisesTo ns k = (i : ℕ) → i + 1 < k → (listed_at ns i).0 < (listed_at ns (i + 1)).0

-- numbers that rise are accepted, and of others the first that does not is told
abbrev pub RisingIsAccepted : Type 0
RisingIsAccepted = (ns : List RecordNumber) → RisesTo ns (length ns) → numbers_risen ns ≡ gives tt

abbrev pub FallenIsTold : Type 0
FallenIsTold = (ns : List RecordNumber) (i : ℕ) → RisesTo ns (i + 1) → i + 1 < length ns
    → (listed_at ns (i + 1)).0 ≤ (listed_at ns i).0
    → numbers_risen ns ≡ refuses (malformed (header_size + row_size * (i + 1)))

-- the table that a call wrote, whatever stands behind it
abbrev pub table_by : Extract → List ℕ → List ℕ
table_by x rest = table_of_extract x ++ rest

-- what holds of every call that gives a report
abbrev pub OfReports : (Extract → Extracted → List ℕ → Type 0) → Type 0
OfReports P = (x : Extract) (m : ℕ) (r : Extracted) (rest : List ℕ) → extract_of x m ≡ gives r → P x r rest

-- its table passes check 21, and holds exactly the records that were written
abbrev pub TablesPass : Type 0
TablesPass = OfReports λ x r rest.
    (table_of (table_by x rest) ≡ gives (numbers_of x.size (base_in x.base (rows_of x)) r.written))
    × (held_of (table_by x rest) ≡ rows_of x)

-- a record that is written is found under its number as it was fixed up, and nothing is found for one left out or
-- refused
abbrev pub found_by : Verdict → Option (List ℕ)
found_by (sound b) = Some b
found_by left_out = None
found_by (refused c) = None

abbrev pub RecordsAreFound : Type 0
RecordsAreFound = OfReports λ x r rest. (i : ℕ) → i < record_count x
    → record_of (table_by x rest) (number_at x i) ≡ found_by (verdict_at x i)

-- nor under a number that no record of the extract has
abbrev pub OthersAreNot : Type 0
OthersAreNot = OfReports λ x r rest. (n : RecordNumber)
    → ((i : ℕ) → i < record_count x → (number_at x i).0 ≡ n.0 → ⊥) → record_of (table_by x rest) n ≡ None

-- the record that a row holds, with its number, if there is one
abbrev pub held_as : RecordNumber → Option (List ℕ) → Option Held
held_as n o = option_map (λ b. record { number = n; bytes = b }) o

-- RULES 23.10: its base row is that of the record that is asked for, where this is written; else there is none
abbrev pub base_by : Option RecordNumber → List ℕ → Option Held
base_by None t = None
base_by (Some n) t = held_as n (record_of t n)

abbrev pub BasesAreTold : Type 0
BasesAreTold = OfReports λ x r rest. base_of (table_by x rest) ≡ base_by x.base (table_by x rest)

-- each record is written, left out or refused, and counted once
abbrev pub CountsAddUp : Type 0
CountsAddUp = OfReports λ x r rest. r.written + r.left_out + r.refused ≡ record_count x

-- the table is as long as the report says
abbrev pub LengthsAreTold : Type 0
LengthsAreTold = OfReports λ x r rest. length (table_by x rest) ≡ r.length + length rest

-- in a buffer that is as long as `room` says 35 is not given, and how much longer it is changes nothing
abbrev pub RoomsAreEnough : Type 0
RoomsAreEnough = (x : Extract) (m : ℕ) → room_of x ≤ m → extract_of x m ≡ answer_of x

-- an array that 29 accepts lies inside the record, and no byte of it is one of a pair's
abbrev pub ArraysAreClear : Type 0
ArraysAreClear = (s : List ℕ) → good_array s ≡ true
    → (array_end s ≤ length s) × (array_end s ≡ array_at s + 2 * (pair_count s + 1))
    × ((i j : ℕ) → i < pair_count s → j < 2 → (pair_at i + j < array_at s) ⊎ (array_end s ≤ pair_at i + j))

-- and one that lies so, and is of the right size, is accepted
abbrev pub ClearArraysAreGood : Type 0
ClearArraysAreGood = (s : List ℕ) → array_end s ≤ length s → array_count s ≡ pair_count s + 1
    → ((i j : ℕ) → i < pair_count s → j < 2 → (pair_at i + j < array_at s) ⊎ (array_end s ≤ pair_at i + j))
    → good_array s ≡ true

-- a record that is fixed up is as long as it was, has in the place of each pair what the array keeps for it, and else
-- the bytes that it had
abbrev pub PairsAreReplaced : Type 0
PairsAreReplaced = (s : List ℕ) → good_array s ≡ true
    → (length (fixed_up s) ≡ length s)
    × ((i j : ℕ) → i < pair_count s → j < 2 → get_or (fixed_up s) (pair_at i + j) 0 ≡ get_or s (kept_at s i + j) 0)
    × ((k : ℕ) → ((i j : ℕ) → i < pair_count s → j < 2 → (k ≡ pair_at i + j → ⊥))
    → get_or (fixed_up s) k 0 ≡ get_or s k 0)

-- a record that was protected is read as it was, but for the array's own bytes: with every check number, of which two
-- bytes are kept, and wherever the array stands behind the eight bytes that name it
abbrev pub ReadAsProtected : Type 0
ReadAsProtected = (n : ℕ) (s : List ℕ) → is_file s ≡ true → 8 ≤ array_at s → good_array s ≡ true
    → (b : List ℕ) × (verdict_of (protected n s) ≡ sound b) × (length b ≡ length s)
    × ((k : ℕ) → (k < array_at s) ⊎ (array_end s ≤ k) → get_or b k 0 ≡ get_or s k 0)
