-- RULES 10.6: what a table holds, row by row.
use Rattle.std.specs.Prelude.{ℕ, zero, suc, ◌+◌, ◌-◌, List, [], ◌∷◌}
use Rattle.std.specs.Borrow.{Bor}
use Rattle.table.specs.Layout.{row_at}
use Rattle.table.specs.Held.{record_at}
use Rattle.table.specs.declared.check.TableHeader.{TableHeader}
use Rattle.table.specs.declared.check.Row.{Row}
use Rattle.table.specs.declared.each.EachRow.{EachRow}

-- a row and its record
pub record Filed : Type 0 where
  pub row : Row
  pub bytes : List ℕ

abbrev pub filed_at : List ℕ → TableHeader → ℕ → Filed
filed_at t h i = record { row = row_at t h i; bytes = record_at t h i }

-- k rows from row i on
unfoldable pub filed_from : List ℕ → TableHeader → ℕ → ℕ → List Filed
filed_from t h zero i = []
filed_from t h (suc k) i = filed_at t h i ∷ filed_from t h k (i + 1)

-- all rows of a table that passed its check
abbrev pub filed_of : List ℕ → TableHeader → List Filed
filed_of t h = filed_from t h h.count 0

-- what an iterator over rows has left, and an item of it
abbrev pub rest : EachRow → List Filed
rest r = filed_from r.table.bytes.now r.table.header (r.table.header.count - r.at) r.at

abbrev pub told_filed : Row × Bor (List ℕ) → Filed
told_filed p = record { row = p.0; bytes = p.1.now }
