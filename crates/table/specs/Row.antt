-- RULES 10.6 and 10.7: the row with a number, whatever the order in which it is sought; and how many rows a search may
-- look at.
use Rattle.std.specs.Prelude.{ℕ, zero, suc, ◌+◌, ◌^◌, ◌<◌, ◌≤◌, ◌≡◌, List, eqb, Option, Some, None}
use Rattle.fields.specs.Pick.{pick}
use Rattle.fields.specs.declared.RecordNumber.{RecordNumber}
use Rattle.table.specs.Layout.{row_at}
use Rattle.table.specs.declared.check.TableHeader.{TableHeader}
use Rattle.table.specs.declared.check.Row.{Row}

-- row i exactly if it has the number, none exactly if no row has it
abbrev pub IsRow : List ℕ → TableHeader → RecordNumber → Option ℕ → Type 0
IsRow t h n (Some i) = (i < h.count) × ((row_at t h i).number.0 ≡ n.0)
IsRow t h n None = (i : ℕ) → i < h.count → (row_at t h i).number.0 ≡ n.0 → ⊥

-- the first of k rows from row i on that has the number, one row after another
unfoldable pub first_from : List ℕ → TableHeader → RecordNumber → ℕ → ℕ → Option Row
first_from t h n zero i = None
first_from t h n (suc k) i =
    pick (eqb (row_at t h i).number.0 n.0) (Some (row_at t h i)) (first_from t h n k (i + 1))

-- the first row of the table that has the number
unfoldable pub first_row : List ℕ → TableHeader → RecordNumber → Option Row
first_row t h n = first_from t h n h.count 0

-- k looks are few for a table of n rows: of fewer than 2^j rows at most j are looked at
abbrev pub FewLooks : ℕ → ℕ → Type 0
FewLooks n k = (j : ℕ) → n < 2 ^ j → k ≤ j
