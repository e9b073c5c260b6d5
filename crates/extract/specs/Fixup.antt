-- RULES 23.3 to 23.6: the fixup of a raw record (MULTI_SECTOR_HEADER), 29 and 30.
use Rattle.std.specs.Prelude.{ℕ, zero, suc, ◌+◌, ◌*◌, ◌/◌, ◌&&◌, ◌||◌, List, Bool, true, length, take, drop, eqb, leb}
use Rattle.fields.specs.Pick.{pick}
use Rattle.fields.specs.Le.{le}
use Rattle.fields.specs.declared.Cause.{Cause}
use Rattle.fields.specs.declared.Cause.TheVariants.{FixupArray, FixupPair}
use Rattle.record.specs.Open.{is_file}
use Rattle.written.specs.Over.{over}

-- UpdateSequenceArrayOffset: where the array stands
abbrev pub array_at : List ℕ → ℕ
array_at s = le 2 s 4

-- UpdateSequenceArraySize: how many numbers of two bytes it has, the check number first
abbrev pub array_count : List ℕ → ℕ
array_count s = le 2 s 6

-- where the array ends
abbrev pub array_end : List ℕ → ℕ
array_end s = array_at s + 2 * array_count s

-- a record has a pair at the end of each 512 bytes
abbrev pub pair_count : List ℕ → ℕ
pair_count s = length s / 512

-- where pair i stands
abbrev pub pair_at : ℕ → ℕ
pair_at i = 512 * i + 510

-- where the array keeps what belongs in the place of pair i: behind the check number
abbrev pub kept_at : List ℕ → ℕ → ℕ
kept_at s i = array_at s + 2 * (i + 1)

-- whether none of the first k pairs is overlapped by bytes from a place to another
unfoldable pub pairs_clear : ℕ → ℕ → ℕ → Bool
pairs_clear from to zero = true
pairs_clear from to (suc i) = pairs_clear from to i && (leb to (pair_at i) || leb (pair_at i + 2) from)

-- 29: the array outside the record, over a pair, or of the wrong size
unfoldable pub good_array : List ℕ → Bool
good_array s =
    leb (array_end s) (length s) && pairs_clear (array_at s) (array_end s) (pair_count s)
    && eqb (array_count s) (pair_count s + 1)

-- 30: whether each of the first k pairs is the check number
unfoldable pub pairs_agree : List ℕ → ℕ → Bool
pairs_agree s zero = true
pairs_agree s (suc i) = pairs_agree s i && eqb (le 2 s (pair_at i)) (le 2 s (array_at s))

-- the record with its first k pairs replaced by what the array keeps
unfoldable pub fixed_below : List ℕ → ℕ → List ℕ
fixed_below s zero = s
fixed_below s (suc i) = over (pair_at i) (take 2 (drop (kept_at s i) s)) (fixed_below s i)

abbrev pub fixed_up : List ℕ → List ℕ
fixed_up s = fixed_below s (pair_count s)

-- what becomes of a raw record: it is left out, refused, or written as these bytes
pub data Verdict : Type 0 where
  left_out : Verdict
  refused : Cause → Verdict
  sound : List ℕ → Verdict

unfoldable pub verdict_of : List ℕ → Verdict
verdict_of s =
    pick (is_file s)
    (pick (good_array s)
    (pick (pairs_agree s (pair_count s)) (sound (fixed_up s)) (refused FixupPair))
    (refused FixupArray))
    left_out
