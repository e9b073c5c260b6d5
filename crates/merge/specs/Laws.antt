-- RULES 27: what holds of tables that are merged; src/laws.rt has the functions whose contracts these are.
use Rattle.std.specs.Prelude.{ℕ, ◌+◌, ◌<◌, ◌≤◌, ◌≡◌, List, ◌++◌, length, Some, None, Result, Ok, Err}
use Rattle.std.specs.Option.{option_or}
use Rattle.fields.specs.Answer.{gives}
use Rattle.fields.specs.declared.RecordNumber.{RecordNumber}
use Rattle.table.specs.Layout.{numbers_at}
use Rattle.table.specs.Check.{table_of}
use Rattle.table.specs.Held.{Held, held_of, record_in, record_of, base_of}
use Rattle.table.specs.Reach.{reach_of}
use Rattle.written.specs.Laws.{Rising, numbers_of}
use Rattle.merge.specs.Rows.{merged, clash}
use Rattle.merge.specs.Merge.{contents, joined, place_in, report_of, merge_of, rows_of, table_of_merge, Contents}
use Rattle.merge.specs.Told.{room_of}
use Rattle.merge.specs.declared.Merged.{Merged}
use Rattle.merge.specs.declared.Pair.{Pair}
use Rattle.merge.specs.declared.unmerged.Unmerged.{Unmerged}

-- what holds of two lists in each of which the numbers rise
abbrev pub OfLists : (List Held → List Held → Type 0) → Type 0
OfLists P = (xs ys : List Held) → Rising 0 xs → Rising 0 ys → P xs ys

-- in what is merged they rise too, so each number is there once
abbrev pub MergedRise : Type 0
MergedRise = OfLists λ xs ys. Rising 0 (merged xs ys)

-- under each number it has what the first has, or else what the second has, and nothing where neither has it
abbrev pub MergedHold : Type 0
MergedHold = (xs ys : List Held) (n : RecordNumber)
    → record_in (merged xs ys) n ≡ option_or (record_in xs n) (record_in ys n)

-- under a number that both have they have the same bytes
abbrev pub Agree : List Held → List Held → RecordNumber → Type 0
Agree xs ys n = (a b : List ℕ) → record_in xs n ≡ Some a → record_in ys n ≡ Some b → a ≡ b

-- without a clash they agree under each number
abbrev pub NoneIsAgreed : Type 0
NoneIsAgreed = OfLists λ xs ys. clash xs ys ≡ None → (n : RecordNumber) → Agree xs ys n

-- a clash is the lowest number under which they don't
abbrev pub ClashIsLowest : Type 0
ClashIsLowest = OfLists λ xs ys. (n : RecordNumber) → clash xs ys ≡ Some n
    → (Agree xs ys n → ⊥) × ((m : RecordNumber) → m.0 < n.0 → Agree xs ys m)

-- the table that a call wrote, whatever stands behind it
abbrev pub table_by : List ℕ → List ℕ → List ℕ → List ℕ
table_by s t rest = table_of_merge s t ++ rest

-- what holds of every call that gives a report
abbrev pub OfReports : (List ℕ → List ℕ → Merged → List ℕ → Type 0) → Type 0
OfReports P = (s t : List ℕ) (m : ℕ) (r : Merged) (rest : List ℕ) → merge_of s t m ≡ Ok r → P s t r rest

-- its table passes check 21, holds exactly the merged rows, and has no base row
abbrev pub TablesPass : Type 0
TablesPass = OfReports λ s t r rest.
    (table_of (table_by s t rest) ≡ gives (numbers_of (numbers_at s).size r.written r.written))
    × (held_of (table_by s t rest) ≡ rows_of s t) × (base_of (table_by s t rest) ≡ None)

-- under each number it has what the first table has, or else what the second has
abbrev pub RecordsAreFound : Type 0
RecordsAreFound = OfReports λ s t r rest. (n : RecordNumber)
    → record_of (table_by s t rest) n ≡ option_or (record_of s n) (record_of t n)

-- so no record of either is lost, or is another
abbrev pub NoneIsLost : Type 0
NoneIsLost = OfReports λ s t r rest. (n : RecordNumber) (b : List ℕ)
    → (record_of s n ≡ Some b → record_of (table_by s t rest) n ≡ Some b)
    × (record_of t n ≡ Some b → record_of (table_by s t rest) n ≡ Some b)

-- the table is as long as the report says
abbrev pub LengthsAreTold : Type 0
LengthsAreTold = OfReports λ s t r rest. length (table_by s t rest) ≡ r.length + length rest

-- the answer but for 35
abbrev pub reported : Result Contents Unmerged → Result Merged Unmerged
reported (Ok z) = Ok (report_of z)
reported (Err why) = Err why

-- RULES 27.5: in a buffer that is as long as `room` says 35 is not given, and how much longer it is changes nothing
abbrev pub RoomsAreEnough : Type 0
RoomsAreEnough = (p : Pair) (m : ℕ) → room_of p ≤ m
    → (let s = p.first.bytes.now in let t = p.second.bytes.now in
    merge_of s t m ≡ reported (joined (place_in t) (contents s) (contents t)))

-- fronts of two inputs that are as long as their reaches answer for the whole of both, and give the same table
abbrev pub FrontsMerge : Type 0
FrontsMerge = (s t more rest : List ℕ) (m : ℕ) → reach_of s ≤ length s → reach_of t ≤ length t
    → (merge_of (s ++ more) (t ++ rest) m ≡ merge_of s t m)
    × ((r : Merged) → merge_of s t m ≡ Ok r → table_of_merge (s ++ more) (t ++ rest) ≡ table_of_merge s t)
