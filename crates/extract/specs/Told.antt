-- What this crate's calls hand out, in the words of the definition.
use Rattle.std.specs.Prelude.{ℕ, ◌%◌, ◌≤◌, ◌≡◌, List, Bool, false, length, ltb, eqb, Option, Some, None}
use Rattle.fields.specs.declared.RecordNumber.{RecordNumber}
use Rattle.fields.specs.Pick.{pick}
use Rattle.table.specs.Check.{number_end}
use Rattle.extract.specs.Records.{number_at, rows_below, left_below, refused_below, first_refused_below}
use Rattle.extract.specs.Base.{base_in}
use Rattle.extract.specs.Extracted.{late_in}
use Rattle.table.specs.Layout.{header_size}
use Rattle.extract.specs.declared.Extract.{Extract}
use Rattle.extract.specs.declared.tally.Tally.{Tally}

-- a record of a size that an extract may have
abbrev pub IsSized : List ℕ → Type 0
IsSized s = (512 ≤ length s) × (length s ≤ 4096) × (length s % 512 ≡ 0)

-- the place of the row of the record at a position, if its number is too large
abbrev pub late_by : Extract → ℕ → ℕ → Option ℕ
late_by x i place = pick (ltb (number_at x i).0 number_end) None (Some place)

-- whether a number is the one that is asked for
abbrev pub has_number : Option RecordNumber → RecordNumber → Bool
has_number None m = false
has_number (Some n) m = eqb m.0 n.0

-- whether the record at a position is the one that is asked for as the base record
abbrev pub is_base_at : Extract → ℕ → Bool
is_base_at x i = has_number x.base (number_at x i)

-- what was counted over the records in front of a position
abbrev pub tally_below : Extract → ℕ → Tally
tally_below x i = record {
  written = length (rows_below x i);
  left_out = left_below x i;
  refused = refused_below x i;
  first_refused = first_refused_below x i;
  late = late_in header_size (rows_below x i);
  base = base_in x.base (rows_below x i);
}
