-- RULES 20: both sides of each limit of two tables that are merged.
use Rattle.std.specs.Prelude.{ℕ, ◌≡◌, List, [], ◌∷◌, ◌++◌, map, replicate, length, Some, None, Result, Ok, Err}
use Rattle.fields.specs.Answer.{Outcome, gives, refuses, refusal}
use Rattle.fields.specs.declared.Cause.TheVariants.{SizesDiffer, RecordsDiffer, OutputShort}
use Rattle.fields.specs.declared.RecordNumber.{RecordNumber}
use Rattle.table.specs.Check.{malformed}
use Rattle.table.specs.Held.{Held}
use Rattle.written.specs.Layout.{written}
use Rattle.merge.specs.Rows.{merged, clash}
use Rattle.merge.specs.Merge.{sizes_checked, clashing, joined, merge_of}
use Rattle.merge.specs.declared.Merged.{Merged}
use Rattle.merge.specs.declared.unmerged.Unmerged.{Unmerged}
use Rattle.merge.specs.declared.unmerged.Unmerged.TheVariants.{First, Second, Clash, Both}

abbrev pub numbered : ℕ → RecordNumber
numbered n = record { 0 = n }

-- rows of two bytes each, by number and the second byte
abbrev pub row : ℕ → ℕ → Held
row n b = record { number = numbered n; bytes = 70 ∷ b ∷ [] }

-- a record size and the two beside it
abbrev pub accepted : Outcome Unit
accepted = gives tt

abbrev pub sizes_refused : Outcome Unit
sizes_refused = refuses (refusal SizesDiffer (numbered 0) 0)

abbrev pub SizeLimits : Type 0
SizeLimits =
    map (sizes_checked 1024) (1016 ∷ 1024 ∷ 1032 ∷ []) ≡ sizes_refused ∷ accepted ∷ sizes_refused ∷ []

-- the numbers of rows that are merged: into 3 and 5 go one below both, one of them, one between them, the other, one
-- above both, none, and both; and two go into none
abbrev pub numbers : List Held → List ℕ
numbers rows = map (λ r. r.number.0) rows

abbrev pub MergeLimits : Type 0
MergeLimits =
    map (λ ns. numbers (merged (map (λ n. row n 1) ns) (row 3 1 ∷ row 5 1 ∷ []))) (
    (2 ∷ []) ∷ (3 ∷ []) ∷ (4 ∷ []) ∷ (5 ∷ []) ∷ (6 ∷ []) ∷ [] ∷ (3 ∷ 5 ∷ []) ∷ []
    )
    ++ (numbers (merged (row 3 1 ∷ row 5 1 ∷ []) []) ∷ [])
    ≡ (2 ∷ 3 ∷ 5 ∷ [])
    ∷ (3 ∷ 5 ∷ [])
    ∷ (3 ∷ 4 ∷ 5 ∷ [])
    ∷ (3 ∷ 5 ∷ [])
    ∷ (3 ∷ 5 ∷ 6 ∷ [])
    ∷ (3 ∷ 5 ∷ [])
    ∷ (3 ∷ 5 ∷ [])
    ∷ (3 ∷ 5 ∷ [])
    ∷ []

-- against 3 and 5: the same bytes under both; another last byte under 3, under 5, under both; another first byte, or a
-- byte less, under 3; other bytes under numbers that are not there, and none
abbrev pub ClashLimits : Type 0
ClashLimits =
    map (λ ys. clash (row 3 1 ∷ row 5 1 ∷ []) ys) (
    (row 3 1 ∷ row 5 1 ∷ [])
    ∷ (row 3 2 ∷ row 5 1 ∷ [])
    ∷ (row 3 1 ∷ row 5 2 ∷ [])
    ∷ (row 3 2 ∷ row 5 2 ∷ [])
    ∷ (record { number = numbered 3; bytes = 71 ∷ 1 ∷ [] } ∷ [])
    ∷ (record { number = numbered 3; bytes = 70 ∷ [] } ∷ [])
    ∷ (row 2 2 ∷ row 4 2 ∷ row 6 2 ∷ [])
    ∷ []
    ∷ []
    )
    ≡ None
    ∷ Some (numbered 3)
    ∷ Some (numbered 5)
    ∷ Some (numbered 3)
    ∷ Some (numbered 3)
    ∷ Some (numbered 3)
    ∷ None
    ∷ None
    ∷ []

-- a clash refuses before 34, however many rows there would be
abbrev pub ClashFirst : Type 0
ClashFirst = (place : RecordNumber → ℕ) (size : ℕ) (xs ys : List Held) (n : RecordNumber) → clash xs ys ≡ Some n
    → joined place (record { size = size; rows = xs }) (record { size = size; rows = ys })
    ≡ Err (clashing n (place n))

-- tables of records of 64 bytes, or of 72, with rows 3 and 5 or with none
abbrev pub table_with : ℕ → ℕ → List ℕ → List ℕ
table_with size b ns =
    written size (length ns) (map (λ n. record { number = numbered n; bytes = replicate size b }) ns)

abbrev pub some_rows : ℕ → List ℕ
some_rows b = table_with 64 b (3 ∷ 5 ∷ [])

abbrev pub no_rows : List ℕ
no_rows = table_with 64 0 []

-- each refusal beside those behind it: two inputs that are no tables, one, sizes that differ where bytes would too,
-- bytes that differ, and a buffer of no bytes; the second row of the second table stands at 32
abbrev pub OrderLimits : Type 0
OrderLimits =
    merge_of [] [] 0
    ∷ merge_of (some_rows 1) [] 0
    ∷ merge_of (some_rows 1) (table_with 72 2 (3 ∷ 5 ∷ [])) 0
    ∷ merge_of (some_rows 1) (some_rows 2) 0
    ∷ merge_of (table_with 64 1 (5 ∷ [])) (some_rows 2) 0
    ∷ merge_of (some_rows 1) (some_rows 1) 0
    ∷ []
    ≡ Err (First (malformed 0))
    ∷ Err (Second (malformed 0))
    ∷ Err (Both (refusal SizesDiffer (numbered 0) 0))
    ∷ Err (Clash (numbered 3) (refusal RecordsDiffer (numbered 0) 20))
    ∷ Err (Clash (numbered 5) (refusal RecordsDiffer (numbered 0) 32))
    ∷ Err (Both (refusal OutputShort (numbered 0) 0))
    ∷ []

-- a buffer of a byte less than the table, of its length, and of a byte more; of a table with itself, of two tables of
-- no rows
abbrev pub short : Result Merged Unmerged
short = Err (Both (refusal OutputShort (numbered 0) 0))

abbrev pub RoomLimits : Type 0
RoomLimits =
    map (merge_of (some_rows 1) (some_rows 1)) (171 ∷ 172 ∷ 173 ∷ [])
    ++ map (merge_of no_rows no_rows) (19 ∷ 20 ∷ [])
    ≡ short
    ∷ Ok (record { length = 172; written = 2 })
    ∷ Ok (record { length = 172; written = 2 })
    ∷ short
    ∷ Ok (record { length = 20; written = 0 })
    ∷ []
