-- RULES 10: what a table that passed its check is, and what its calls leave open; src/laws.rt has the functions
-- whose contracts these are.
use Rattle.std.specs.Prelude.{ℕ, true, ◌+◌, ◌*◌, ◌^◌, ◌<◌, ◌≤◌, ◌≡◌, List, ◌++◌, length}
use Rattle.std.specs.Prelude.{Option, Some, None, option_map}
use Rattle.std.specs.Prelude.{Result, Ok, Err, IfOk}
use Rattle.fields.specs.Answer.{Outcome, gives, refuses}
use Rattle.fields.specs.Told.{told_as}
use Rattle.fields.specs.Length.{good_length}
use Rattle.fields.specs.declared.RecordNumber.{RecordNumber}
use Rattle.fields.specs.declared.Refusal.{Refusal}
use Rattle.table.specs.Layout.{row_size, row_at, numbers_at}
use Rattle.table.specs.Check.{malformed, most_rows, number_end, table_of}
use Rattle.table.specs.Fault.{fault_of}
use Rattle.table.specs.Reach.{reach_of}
use Rattle.table.specs.Held.{held_of, held_at, record_told, record_at, record_of, base_row, base_of}
use Rattle.table.specs.Row.{IsRow, first_row, FewLooks}
use Rattle.table.specs.declared.check.TableHeader.{TableHeader}
use Rattle.table.specs.declared.faults.Fault.{Fault}
use Rattle.table.specs.declared.faults.Fault.TheVariants.{HeaderCut, RowCount, RecordSize, DirectoryBegin}
use Rattle.table.specs.declared.faults.Fault.TheVariants.{DirectoryEnd, RecordsBegin, BaseRow}
use Rattle.table.specs.declared.faults.Fault.TheVariants.{RowNumber, RowOrder, RowBegin, RowEnd}
use Rattle.table.specs.declared.Table.{Table}

-- what holds of every table that passed, and its numbers
abbrev pub OfTables : (List ℕ → TableHeader → Type 0) → Type 0
OfTables P = (t : List ℕ) (h : TableHeader) → table_of t ≡ gives h → P t h

-- numbers rise from row to row
abbrev pub RowsRise : Type 0
RowsRise = OfTables λ t h. (i j : ℕ) → i < j → j < h.count → (row_at t h i).number.0 < (row_at t h j).number.0

-- rows stand one behind another in front of the records, and their numbers are below 2^48
abbrev pub RowsStand : Type 0
RowsStand = OfTables λ t h. (i : ℕ) → i < h.count
    → ((row_at t h i).place ≡ h.directory + row_size * i) × ((row_at t h i).place + row_size ≤ h.records)
    × ((row_at t h i).number.0 < number_end)

-- a table's record size is one that a record may have
abbrev pub SizesAreGood : Type 0
SizesAreGood = OfTables λ t h. good_length h.size ≡ true

-- a row's record lies behind the directory and inside the table, and has the record size
abbrev pub RecordsLieInside : Type 0
RecordsLieInside = OfTables λ t h. (i : ℕ) → i < h.count
    → (h.directory + row_size * h.count ≤ (row_at t h i).offset) × ((row_at t h i).offset + h.size ≤ length t)
    × (length (record_at t h i) ≡ h.size)

-- a number that a row has finds that row's record
abbrev pub RowsAreFound : Type 0
RowsAreFound =
    OfTables λ t h. (n : RecordNumber) (i : ℕ) → IsRow t h n (Some i) → record_of t n ≡ Some (record_at t h i)

-- a number that no row has finds none
abbrev pub OthersAreNot : Type 0
OthersAreNot = OfTables λ t h. (n : RecordNumber) → IsRow t h n None → record_of t n ≡ None

-- there are as many records as rows
abbrev pub RowsAreHeld : Type 0
RowsAreHeld = OfTables λ t h. length (held_of t) ≡ h.count

-- the base record that a table comes with is a row's, told by its base row
abbrev pub BaseIsARow : Type 0
BaseIsARow = OfTables λ t h. (i : ℕ) → base_row h ≡ Some i → (i < h.count) × (base_of t ≡ Some (held_at t h i))

-- what the check of a table promises, both clauses of it
pub record Checks (t : List ℕ) (r : Result Table Refusal) : Type 0 where
  pub answer : told_as (λ x. x.header) r ≡ table_of t
  pub bytes : IfOk r (λ x. x.bytes.now ≡ t)

-- two checks with one answer: the same bytes with the same numbers, or the same refusal
abbrev pub SameTable : Result Table Refusal → Result Table Refusal → Type 0
SameTable (Ok x) (Ok y) = (x.bytes.now ≡ y.bytes.now) × (x.header ≡ y.header)
SameTable (Err x) (Err y) = x ≡ y
SameTable (Ok x) (Err y) = ⊥
SameTable (Err x) (Ok y) = ⊥

abbrev pub ChecksSettle : Type 0
ChecksSettle = (t : List ℕ) (r s : Result Table Refusal) → Checks t r → Checks t s → SameTable r s

-- whatever the order of a search, the row that it finds is the first one with the number
abbrev pub FirstIsFound : Type 0
FirstIsFound = OfTables λ t h. (n : RecordNumber) (o : Option ℕ)
    → IsRow t h n o → first_row t h n ≡ option_map (row_at t h) o

-- the record that a table has under a number is the one that the first row with the number tells
abbrev pub FirstIsTold : Type 0
FirstIsTold = OfTables λ t h. (n : RecordNumber) → record_of t n ≡ option_map (record_told t h) (first_row t h n)

-- few looks, for a table that has a row: no more than log2 of its rows, rounded down, and 1. That is the j with 2^j at
-- most the rows, and 2^(j + 1) above them.
abbrev pub FewByLog : Type 0
FewByLog = (n j k : ℕ) → 2 ^ j ≤ n → n < 2 ^ (j + 1)
    → (FewLooks n k → k ≤ j + 1) × (k ≤ j + 1 → FewLooks n k)

-- in a table of no rows none is looked at
abbrev pub FewOfNone : Type 0
FewOfNone = (k : ℕ) → FewLooks 0 k → k ≡ 0

-- 13 in the largest table, and 12 if it has a row less
abbrev pub FewOfMost : Type 0
FewOfMost = FewLooks most_rows 13 × (FewLooks most_rows 14 → ⊥) × FewLooks 4095 12 × (FewLooks 4095 13 → ⊥)

-- any two ways to find a row find the same
abbrev pub RowsSettle : Type 0
RowsSettle = OfTables λ t h. (n : RecordNumber) (a b : Option ℕ) → IsRow t h n a → IsRow t h n b → a ≡ b

-- the place that 21 has: where the row stands, or 0
abbrev pub place_of : Fault → ℕ
place_of (RowNumber place) = place
place_of (RowOrder place) = place
place_of (RowBegin place) = place
place_of (RowEnd place) = place
place_of (HeaderCut n) = 0
place_of (RowCount n) = 0
place_of (RecordSize n) = 0
place_of (DirectoryBegin n) = 0
place_of (DirectoryEnd n) = 0
place_of (RecordsBegin n) = 0
place_of (BaseRow n) = 0

-- what a check answers that gives x where it finds no fault
abbrev pub judged : {A : Type 0} → A → Option Fault → Outcome A
judged x None = gives x
judged x (Some f) = refuses (malformed (place_of f))

-- the check refuses exactly the bytes that have a fault, at the place of the first one
abbrev pub FaultsRefuse : Type 0
FaultsRefuse = (t : List ℕ) → table_of t ≡ judged (numbers_at t) (fault_of t)

-- bytes behind the reach of a front change no answer, and no fault
abbrev pub FrontsAnswer : Type 0
FrontsAnswer = (t rest : List ℕ) → reach_of t ≤ length t
    → (table_of (t ++ rest) ≡ table_of t) × (fault_of (t ++ rest) ≡ fault_of t)

-- nor what a table holds
abbrev pub FrontsHold : Type 0
FrontsHold = (t rest : List ℕ) → reach_of t ≤ length t → (h : TableHeader) → table_of t ≡ gives h
    → (base_of (t ++ rest) ≡ base_of t) × ((n : RecordNumber) → record_of (t ++ rest) n ≡ record_of t n)
