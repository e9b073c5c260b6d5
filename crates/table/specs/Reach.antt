-- RULES 10: how much of an input matters to the check of a table, and to what the table holds. A front of the input
-- tells, so that a reader need read no further.
use Rattle.std.specs.Prelude.{ℕ, zero, suc, ◌+◌, List, Option, Some, None, length, ltb, max}
use Rattle.fields.specs.Pick.{pick}
use Rattle.table.specs.Layout.{numbers_at, header_size, row_at}
use Rattle.table.specs.Fault.{numbers_fault}
use Rattle.table.specs.declared.check.TableHeader.{TableHeader}
use Rattle.table.specs.declared.faults.Fault.{Fault}

-- the end of the record that ends last, of the rows below row i; no less than where the records begin
unfoldable pub rows_reach : List ℕ → TableHeader → ℕ → ℕ
rows_reach t h zero = h.records
rows_reach t h (suc i) = max (rows_reach t h i) ((row_at t h i).offset + h.size)

-- the directory, and then the records; a header that has a fault of its own is all that matters
abbrev pub behind_header : List ℕ → TableHeader → Option Fault → ℕ
behind_header t h (Some fault) = header_size
behind_header t h None = pick (ltb (length t) h.records) h.records (rows_reach t h h.count)

-- how many bytes must be there, by those that are: no less than this front has where more are needed
unfoldable pub reach_of : List ℕ → ℕ
reach_of t =
    pick (ltb (length t) header_size) header_size
    (behind_header t (numbers_at t) (numbers_fault (numbers_at t).records (numbers_at t)))
