-- RULES 23.2, 23.7: what comes of an extract: the refusals of the whole call, 44, 34 and 35, or what is reported.
use Rattle.std.specs.Prelude.{ℕ, ◌+◌, List, [], ◌∷◌, length, ltb, min, Option, Some, None}
use Rattle.fields.specs.Pick.{pick}
use Rattle.fields.specs.Answer.{Outcome, gives, refuses, refusal, ◌⟫◌}
use Rattle.fields.specs.declared.Cause.TheVariants.{RowNumber}
use Rattle.table.specs.Layout.{header_size, row_size}
use Rattle.table.specs.Check.{number_end, most_rows}
use Rattle.table.specs.Held.{Held}
use Rattle.written.specs.Layout.{table_length, written}
use Rattle.written.specs.Refused.{rows_checked, room_checked}
use Rattle.extract.specs.Records.{record_count, rows_of, left_below, refused_below, first_refused_below}
use Rattle.extract.specs.Base.{base_in}
use Rattle.extract.specs.declared.Extract.{Extract}
use Rattle.extract.specs.declared.tally.Extracted.{Extracted}

-- where the first of these rows stands whose record's number is too large, the first row of all standing at a place
unfoldable pub late_in : ℕ → List Held → Option ℕ
late_in at [] = None
late_in at (r ∷ rs) = pick (ltb r.number.0 number_end) (late_in (at + row_size) rs) (Some at)

-- 44: at that row's place
abbrev pub refused_late : Option ℕ → Outcome Unit
refused_late None = gives tt
refused_late (Some place) = refuses (refusal RowNumber (record { 0 = 0 }) place)

unfoldable pub numbers_checked : List Held → Outcome Unit
numbers_checked rows = refused_late (late_in header_size rows)

-- the table of an extract
abbrev pub table_of_extract : Extract → List ℕ
table_of_extract x = written x.size (base_in x.base (rows_of x)) (rows_of x)

-- how many bytes were written, how many rows, and how many records were not
abbrev pub report_of : Extract → Extracted
report_of x = record {
  length = table_length x.size (length (rows_of x));
  written = length (rows_of x);
  left_out = left_below x (record_count x);
  refused = refused_below x (record_count x);
  first_refused = first_refused_below x (record_count x);
}

-- what is reported, behind 44 and 34
unfoldable pub answer_of : Extract → Outcome Extracted
answer_of x = numbers_checked (rows_of x) ⟫ λ _. rows_checked (length (rows_of x)) ⟫ λ _. gives (report_of x)

-- the call's answer, with a buffer of m bytes: behind these two 35
unfoldable pub extract_of : Extract → ℕ → Outcome Extracted
extract_of x m = answer_of x ⟫ λ r. room_checked x.size r.written m ⟫ λ _. gives r

-- a buffer that is long enough whatever the records are
abbrev pub room_of : Extract → ℕ
room_of x = table_length x.size (min (record_count x) most_rows)
