-- RULES 20: both sides of each limit of an extract.
use Rattle.std.specs.Prelude.{ℕ, ◌*◌, ◌^◌, ◌≡◌, true, false, Some, None}
use Rattle.std.specs.Prelude.{List, [], ◌∷◌, ◌++◌, map, replicate}
use Rattle.fields.specs.Answer.{Outcome, gives, refuses as refused_with, refusal}
use Rattle.fields.specs.LeBytes.{le_bytes}
use Rattle.fields.specs.declared.RecordNumber.{RecordNumber}
use Rattle.fields.specs.declared.Cause.{Cause}
use Rattle.fields.specs.declared.Cause.TheVariants.{RecordLength, FixupArray, FixupPair}
use Rattle.record.specs.Open.{FILE}
use Rattle.table.specs.Layout.{header_size}
use Rattle.table.specs.Check.{malformed}
use Rattle.table.specs.Held.{Held}
use Rattle.written.specs.Over.{over}
use Rattle.extract.specs.Numbers.{numbers_risen}
use Rattle.extract.specs.Size.{good_size, whole_records, one_number_each, chosen_checked}
use Rattle.extract.specs.Fixup.{good_array, Verdict, left_out, refused, sound, verdict_of}
use Rattle.extract.specs.Protect.{protected}
use Rattle.extract.specs.Base.{row_of}
use Rattle.extract.specs.Extracted.{late_in}

-- record sizes
abbrev pub SizeLimits : Type 0
SizeLimits =
    map good_size (0 ∷ 511 ∷ 512 ∷ 513 ∷ 1024 ∷ 3584 ∷ 4095 ∷ 4096 ∷ 4608 ∷ [])
    ≡ false ∷ false ∷ true ∷ false ∷ true ∷ true ∷ false ∷ true ∷ false ∷ []

-- an extract of so many bytes, in records of 1,024
abbrev pub EndLimits : Type 0
EndLimits =
    map (λ n. whole_records 1024 (replicate n 0)) (0 ∷ 1023 ∷ 1024 ∷ 1025 ∷ 1536 ∷ 2048 ∷ [])
    ≡ true ∷ false ∷ true ∷ false ∷ false ∷ true ∷ []

-- rows of records with these numbers: where the first too large one stands
abbrev pub rows_with : List ℕ → List Held
rows_with ns = map (λ n. record { number = record { 0 = n }; bytes = [] }) ns

abbrev pub NumberLimits : Type 0
NumberLimits =
    map (λ ns. late_in header_size (rows_with ns)) (
    []
    ∷ (281474976710655 ∷ [])
    ∷ (281474976710656 ∷ [])
    ∷ (2 ^ 64 ∷ [])
    ∷ (281474976710655 ∷ 281474976710656 ∷ 281474976710657 ∷ [])
    ∷ []
    )
    ≡ None ∷ None ∷ Some 20 ∷ Some 20 ∷ Some 32 ∷ []

-- numbers that are lent: none, one, two that are equal, that fall and rise by one, the last two of three equal, the
-- largest number twice
abbrev pub numbered_by : List ℕ → List RecordNumber
numbered_by ns = map (λ n. record { 0 = n }) ns

abbrev pub accepted : Outcome Unit
accepted = gives tt

abbrev pub RiseLimits : Type 0
RiseLimits =
    map (λ ns. numbers_risen (numbered_by ns)) (
    []
    ∷ (5 ∷ [])
    ∷ (5 ∷ 5 ∷ [])
    ∷ (5 ∷ 4 ∷ [])
    ∷ (5 ∷ 6 ∷ [])
    ∷ (5 ∷ 6 ∷ 6 ∷ [])
    ∷ (18446744073709551615 ∷ 18446744073709551615 ∷ [])
    ∷ []
    )
    ≡ accepted
    ∷ accepted
    ∷ refused_with (malformed 32)
    ∷ refused_with (malformed 32)
    ∷ accepted
    ∷ refused_with (malformed 44)
    ∷ refused_with (malformed 32)
    ∷ []

-- 0, 1 and 2 records of 512 bytes, each with 0, 1 and 2 numbers
abbrev pub wrong_length : Outcome Unit
wrong_length = refused_with (refusal RecordLength (record { 0 = 0 }) 0)

abbrev pub OneEachLimits : Type 0
OneEachLimits =
    map (λ k. map (λ ns. one_number_each 512 (replicate (512 * k) 0) (numbered_by ns)) (
    [] ∷ (5 ∷ []) ∷ (5 ∷ 6 ∷ []) ∷ []
    )) (0 ∷ 1 ∷ 2 ∷ [])
    ≡ (accepted ∷ wrong_length ∷ wrong_length ∷ [])
    ∷ (wrong_length ∷ accepted ∷ wrong_length ∷ [])
    ∷ (wrong_length ∷ wrong_length ∷ accepted ∷ [])
    ∷ []

-- two records with numbers that fall: of a wrong size, with one number too many, and else
abbrev pub FirstLimits : Type 0
FirstLimits =
    chosen_checked 513 (replicate 1026 0) (numbered_by (5 ∷ 4 ∷ []))
    ∷ chosen_checked 512 (replicate 1024 0) (numbered_by (5 ∷ 4 ∷ 3 ∷ []))
    ∷ chosen_checked 512 (replicate 1024 0) (numbered_by (5 ∷ 4 ∷ []))
    ∷ []
    ≡ wrong_length ∷ wrong_length ∷ refused_with (malformed 32) ∷ []

-- the base row among rows 3, 5 and 7: before the first, the first, between two, the last, behind it; and among none
abbrev pub BaseLimits : Type 0
BaseLimits =
    map (λ n. row_of (record { 0 = n }) (rows_with (3 ∷ 5 ∷ 7 ∷ []))) (2 ∷ 3 ∷ 4 ∷ 7 ∷ 8 ∷ [])
    ++ (row_of (record { 0 = 3 }) [] ∷ [])
    ≡ 3 ∷ 0 ∷ 3 ∷ 2 ∷ 3 ∷ 0 ∷ []

-- a record of 1,024 bytes that names an array of so many numbers at a place
abbrev pub naming : ℕ → ℕ → List ℕ
naming at count = FILE ++ (le_bytes 2 at ++ (le_bytes 2 count ++ replicate 1016 0))

-- of three numbers, the right size: over the signature, ending at a pair, a byte further, from the pair's last byte on,
-- behind it, ending at the last pair, a byte further, ending with the record, past it
abbrev pub PlaceLimits : Type 0
PlaceLimits =
    map (λ at. good_array (naming at 3)) (0 ∷ 48 ∷ 504 ∷ 505 ∷ 511 ∷ 512 ∷ 1016 ∷ 1017 ∷ 1018 ∷ 1019 ∷ 65535 ∷ [])
    ≡ true ∷ true ∷ true ∷ false ∷ false ∷ true ∷ true ∷ false ∷ false ∷ false ∷ false ∷ []

-- of two numbers, three and four
abbrev pub CountLimits : Type 0
CountLimits = map (λ n. good_array (naming 48 n)) (0 ∷ 2 ∷ 3 ∷ 4 ∷ []) ≡ false ∷ false ∷ true ∷ false ∷ []

-- what becomes of a record, without its bytes
pub data Kind : Type 0 where
  leaves_out : Kind
  refuses : Cause → Kind
  writes : Kind

abbrev pub kind_of : Verdict → Kind
kind_of left_out = leaves_out
kind_of (refused c) = refuses c
kind_of (sound b) = writes

-- a record that was protected with a check number; with another first byte of its signature; with a byte of a pair
-- changed, of the first and of the last one; with an array of the wrong size, and a torn pair beside that
abbrev pub whole : List ℕ
whole = protected 263 (naming 48 3)

abbrev pub PairLimits : Type 0
PairLimits =
    map (λ s. kind_of (verdict_of s)) (
    whole
    ∷ over 0 (66 ∷ []) whole
    ∷ over 510 (8 ∷ []) whole
    ∷ over 511 (2 ∷ []) whole
    ∷ over 1022 (8 ∷ []) whole
    ∷ over 1023 (2 ∷ []) whole
    ∷ over 6 (4 ∷ []) whole
    ∷ over 510 (8 ∷ []) (over 6 (4 ∷ []) whole)
    ∷ []
    )
    ≡ writes
    ∷ leaves_out
    ∷ refuses FixupPair
    ∷ refuses FixupPair
    ∷ refuses FixupPair
    ∷ refuses FixupPair
    ∷ refuses FixupArray
    ∷ refuses FixupArray
    ∷ []
