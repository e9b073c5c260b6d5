-- RULES 22.4: what refuses a table that is to be written, 34 and 35. Neither fault lies in a record: 0 is told.
use Rattle.std.specs.Prelude.{ℕ, leb}
use Rattle.fields.specs.Pick.{pick}
use Rattle.fields.specs.Answer.{Outcome, gives, refuses, refusal}
use Rattle.fields.specs.declared.Cause.TheVariants.{TooManyRows, OutputShort}
use Rattle.table.specs.Check.{most_rows}
use Rattle.written.specs.Layout.{table_length}

-- 34: more rows than a table may have
unfoldable pub rows_checked : ℕ → Outcome Unit
rows_checked k = pick (leb k most_rows) (gives tt) (refuses (refusal TooManyRows (record { 0 = 0 }) 0))

-- 35: a buffer of m bytes, where a table of k rows takes more
unfoldable pub room_checked : ℕ → ℕ → ℕ → Outcome Unit
room_checked size k m =
    pick (leb (table_length size k) m) (gives tt) (refuses (refusal OutputShort (record { 0 = 0 }) 0))
