-- RULES 23.2, 23.9: which extracts are taken, 1, and 21 of numbers that are lent with them.
use Rattle.std.specs.Prelude.{ℕ, ◌%◌, ◌/◌, ◌&&◌, List, Bool, length, leb, eqb}
use Rattle.fields.specs.Pick.{pick}
use Rattle.fields.specs.Answer.{Outcome, gives, refuses, refusal, ◌⟫◌}
use Rattle.fields.specs.declared.Cause.TheVariants.{RecordLength}
use Rattle.fields.specs.declared.RecordNumber.{RecordNumber}
use Rattle.extract.specs.Numbers.{numbers_risen}

-- from 512 to 4,096 bytes, in whole 512s
unfoldable pub good_size : ℕ → Bool
good_size n = leb 512 n && leb n 4096 && eqb (n % 512) 0

-- records of such a size, and no broken last one
unfoldable pub whole_records : ℕ → List ℕ → Bool
whole_records size s = good_size size && eqb (length s % size) 0

-- 1: another record size, or a broken last record. The fault lies in no record: 0 is told
unfoldable pub sizes_checked : ℕ → List ℕ → Outcome Unit
sizes_checked size s = pick (whole_records size s) (gives tt) (refuses (refusal RecordLength (record { 0 = 0 }) 0))

-- RULES 23.9: records with a number each
unfoldable pub one_number_each : ℕ → List ℕ → List RecordNumber → Outcome Unit
one_number_each size s ns =
    pick (eqb (length s / size) (length ns)) (gives tt) (refuses (refusal RecordLength (record { 0 = 0 }) 0))

-- 1, also where there is not a number for each record; then 21
unfoldable pub chosen_checked : ℕ → List ℕ → List RecordNumber → Outcome Unit
chosen_checked size s ns = sizes_checked size s ⟫ λ _. one_number_each size s ns ⟫ λ _. numbers_risen ns
