-- The check of the rows as the loop makes it, which keeps one number. Only contracts of the loop's own speak of it.
use Rattle.std.specs.Prelude.{ℕ, zero, suc, ◌+◌, ◌&&◌, List, Bool, ltb, leb}
use Rattle.table.specs.Layout.{row_at}
use Rattle.table.specs.Check.{number_end}
use Rattle.table.specs.declared.check.TableHeader.{TableHeader}
use Rattle.table.specs.declared.check.Row.{Row}

-- the least number that is above the row before row i; any number is above none
unfoldable pub least_at : List ℕ → TableHeader → ℕ → ℕ
least_at t h zero = 0
least_at t h (suc i) = (row_at t h i).number.0 + 1

-- whether a row of a table of m bytes is good, whose number is to be at least so large
unfoldable pub good_from : ℕ → TableHeader → ℕ → Row → Bool
good_from m h least r =
    ltb r.number.0 number_end && leb least r.number.0 && leb h.records r.offset && leb (r.offset + h.size) m
