-- RULES 3: the opening checks, 1, 2 and 27. Their place is 0, in the record tested.
use Rattle.std.specs.Prelude.{ℕ, List, [], ◌∷◌, Bool, length, take, eqb, ltb, bytes_eq}
use Rattle.fields.specs.Pick.{pick}
use Rattle.fields.specs.Length.{good_length}
use Rattle.fields.specs.Answer.{Outcome, gives, refuses, refusal}
use Rattle.fields.specs.declared.Cause.TheVariants.{RecordLength, NotFile, UsedSize}
use Rattle.fields.specs.declared.RecordNumber.{RecordNumber}
use Rattle.record.specs.Header.{used_size}

abbrev pub FILE : List ℕ
FILE = 0x46 ∷ 0x49 ∷ 0x4C ∷ 0x45 ∷ []

-- FILE_RECORD_SEGMENT_HEADER begins with MultiSectorHeader.Signature, the four bytes FILE
unfoldable pub is_file : List ℕ → Bool
is_file s = bytes_eq (take 4 s) FILE

-- a record that was lent: its bytes and its number
pub record Lent : Type 0 where
  pub bytes : List ℕ
  pub number : RecordNumber

abbrev pub lent : List ℕ → RecordNumber → Lent
lent s n = record { bytes = s; number = n }

-- 27: its used size is above its length
unfoldable pub check_used : List ℕ → RecordNumber → Outcome Lent
check_used s n = pick (ltb (length s) (used_size s)) (refuses (refusal UsedSize n 0)) (gives (lent s n))

-- 2: it doesn't begin with FILE; then 27
unfoldable pub check_file : List ℕ → RecordNumber → Outcome Lent
check_file s n = pick (is_file s) (check_used s n) (refuses (refusal NotFile n 0))

-- 1: no length of a record; then 2 and 27
unfoldable pub open_of : List ℕ → RecordNumber → Outcome Lent
open_of s n = pick (good_length (length s)) (check_file s n) (refuses (refusal RecordLength n 0))

-- of a record lent with a table: 1 also where it has another length than the table's records
unfoldable pub open_in : List ℕ → RecordNumber → ℕ → Outcome Lent
open_in s n size = pick (eqb (length s) size) (open_of s n) (refuses (refusal RecordLength n 0))
