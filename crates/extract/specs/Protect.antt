-- RULES 23.8: how a record is protected before it goes to the disk. Reading an extract undoes it.
use Rattle.std.specs.Prelude.{ℕ, zero, suc, List, [], ◌++◌, take, drop}
use Rattle.fields.specs.LeBytes.{le_bytes}
use Rattle.written.specs.Over.{over}
use Rattle.extract.specs.Fixup.{array_at, pair_at, pair_count}

-- the first k pairs, one behind another
unfoldable pub pairs_of : List ℕ → ℕ → List ℕ
pairs_of s zero = []
pairs_of s (suc i) = pairs_of s i ++ take 2 (drop (pair_at i) s)

-- the record with these two bytes in the place of each of its first k pairs
unfoldable pub checked_below : List ℕ → List ℕ → ℕ → List ℕ
checked_below c s zero = s
checked_below c s (suc i) = over (pair_at i) c (checked_below c s i)

-- the record with check number n in the place of its pairs, and in its array the check number and the pairs
unfoldable pub protected : ℕ → List ℕ → List ℕ
protected n s =
    over (array_at s) (le_bytes 2 n ++ pairs_of s (pair_count s)) (checked_below (le_bytes 2 n) s (pair_count s))
