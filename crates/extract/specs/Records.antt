-- RULES 23.1, 23.7: an extract's records one after another, and what of them is written, left out and refused.
use Rattle.std.specs.Prelude.{ℕ, zero, suc, ◌+◌, ◌*◌, ◌/◌, ◌^◌, List, [], ◌∷◌, ◌++◌, length, take, drop, ltb}
use Rattle.std.specs.Prelude.{Option, Some, None}
use Rattle.std.specs.Option.{option_or}
use Rattle.fields.specs.Pick.{pick}
use Rattle.fields.specs.declared.RecordNumber.{RecordNumber}
use Rattle.table.specs.Held.{Held}
use Rattle.extract.specs.Numbers.{numbered}
use Rattle.extract.specs.Fixup.{Verdict, left_out, refused, sound, verdict_of}
use Rattle.extract.specs.declared.Extract.{Extract}
use Rattle.extract.specs.declared.tally.RefusedRecord.{RefusedRecord}

-- whether a record counts among those that are left out, and among those that are refused
abbrev pub left_by : Verdict → ℕ
left_by left_out = 1
left_by (refused c) = 0
left_by (sound b) = 0

abbrev pub refused_by : Verdict → ℕ
refused_by (refused c) = 1
refused_by left_out = 0
refused_by (sound b) = 0

module _ (x : Extract) where
  -- how many records there are
  abbrev pub record_count : ℕ
  record_count = length x.bytes.now / x.size

  -- the record at a position, what becomes of it, and its number
  unfoldable pub record_at : ℕ → List ℕ
  record_at i = take x.size (drop (x.size * i) x.bytes.now)

  abbrev pub verdict_at : ℕ → Verdict
  verdict_at i = verdict_of (record_at i)

  abbrev pub number_at : ℕ → RecordNumber
  number_at i = numbered x.numbers i

  -- the row that it makes, where it is written
  abbrev pub row_by : ℕ → Verdict → List Held
  row_by i (sound b) = record { number = number_at i; bytes = b } ∷ []
  row_by i left_out = []
  row_by i (refused c) = []

  -- its number as it is told: 2^64 and more is none
  abbrev pub told_number : ℕ → Option RecordNumber
  told_number i = pick (ltb (number_at i).0 (2 ^ 64)) (Some (number_at i)) None

  -- what is told of it, where it is refused
  abbrev pub told_by : ℕ → Verdict → Option RefusedRecord
  told_by i (refused c) = Some (record { position = i; number = told_number i; cause = c })
  told_by i left_out = None
  told_by i (sound b) = None

  -- the rows of the records in front of a position, how many of them are left out and refused, and the first refused
  unfoldable pub rows_below : ℕ → List Held
  rows_below zero = []
  rows_below (suc i) = rows_below i ++ row_by i (verdict_at i)

  unfoldable pub left_below : ℕ → ℕ
  left_below zero = 0
  left_below (suc i) = left_below i + left_by (verdict_at i)

  unfoldable pub refused_below : ℕ → ℕ
  refused_below zero = 0
  refused_below (suc i) = refused_below i + refused_by (verdict_at i)

  unfoldable pub first_refused_below : ℕ → Option RefusedRecord
  first_refused_below zero = None
  first_refused_below (suc i) = option_or (first_refused_below i) (told_by i (verdict_at i))

  -- the rows of the table
  abbrev pub rows_of : List Held
  rows_of = rows_below record_count
