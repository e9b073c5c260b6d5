-- RULES 10: which test of the check a table's bytes fail, told apart for people, where a refusal has 21 and a place.
use Rattle.std.specs.Prelude.{ℕ, zero, suc, ◌+◌, ◌*◌, List, Bool, Option, Some, None, length, ltb}
use Rattle.std.specs.Option.{option_or}
use Rattle.fields.specs.Pick.{pick}
use Rattle.fields.specs.Length.{good_length}
use Rattle.table.specs.Layout.{numbers_at, header_size, row_size, row_at}
use Rattle.table.specs.Check.{most_rows, number_end, rises}
use Rattle.table.specs.declared.check.TableHeader.{TableHeader}
use Rattle.table.specs.declared.check.Row.{Row}
use Rattle.table.specs.declared.faults.Fault.{Fault}
use Rattle.table.specs.declared.faults.Fault.TheVariants.{
  HeaderCut,
  RowCount,
  RecordSize,
  DirectoryBegin,
  DirectoryEnd,
  RecordsBegin,
  BaseRow,
  RowNumber,
  RowOrder,
  RowBegin,
  RowEnd,
}

-- the five numbers, beside a table of m bytes: first what they say themselves, so that a reader of the header knows it
unfoldable pub numbers_fault : ℕ → TableHeader → Option Fault
numbers_fault m h =
    pick (ltb most_rows h.count) (Some (RowCount h.count))
    (pick (good_length h.size)
    (pick (ltb h.directory header_size) (Some (DirectoryBegin h.directory))
    (pick (ltb h.records (h.directory + row_size * h.count)) (Some (DirectoryEnd h.records))
    (pick (ltb h.count h.base) (Some (BaseRow h.base))
    (pick (ltb m h.records) (Some (RecordsBegin h.records)) None))))
    (Some (RecordSize h.size)))

-- the header: too short for its five numbers, or a fault of them
unfoldable pub head_fault : List ℕ → Option Fault
head_fault t =
    pick (ltb (length t) header_size) (Some (HeaderCut (length t))) (numbers_fault (length t) (numbers_at t))

-- a row of a table of m bytes, whose number is above that of the row before it, or not
unfoldable pub row_fault : ℕ → TableHeader → Bool → Row → Option Fault
row_fault m h above r =
    pick (ltb r.number.0 number_end)
    (pick above
    (pick (ltb r.offset h.records) (Some (RowBegin r.place))
    (pick (ltb m (r.offset + h.size)) (Some (RowEnd r.place)) None))
    (Some (RowOrder r.place)))
    (Some (RowNumber r.place))

-- the rows below row i, from the first on
unfoldable pub rows_fault : List ℕ → TableHeader → ℕ → Option Fault
rows_fault t h zero = None
rows_fault t h (suc i) = option_or (rows_fault t h i) (row_fault (length t) h (rises t h i) (row_at t h i))

-- the first fault of a table's bytes, if they have one
unfoldable pub fault_of : List ℕ → Option Fault
fault_of t = option_or (head_fault t) (rows_fault t (numbers_at t) (numbers_at t).count)
