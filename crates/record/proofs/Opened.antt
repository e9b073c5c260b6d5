-- Bytes of a good length reach behind the used size; a record that passes the opening checks has 64 to 4,096 bytes.
use Rattle.std.proofs.Common.{ℕ, ◌≤◌, ◌≡◌, true, List, length, arith}
use Rattle.std.proofs.lemmas.Bool.Decides.{nat_tests}
use Rattle.fields.specs.Answer.{gives}
use Rattle.fields.specs.Length.{good_length}
use Rattle.fields.specs.declared.RecordNumber.{RecordNumber}
use Rattle.record.specs.Open.{open_of, lent}

pub reaches_used : (m : ℕ) → good_length m ≡ true → 28 ≤ m
unfolding good_length
reaches_used m e = grind (arith, nat_tests)

pub least : (s : List ℕ) (n : RecordNumber) → gives (lent s n) ≡ open_of s n → 64 ≤ length s
unfolding open_of good_length
least s n e = grind (arith, nat_tests)

pub most : (s : List ℕ) (n : RecordNumber) → gives (lent s n) ≡ open_of s n → length s ≤ 4096
unfolding open_of good_length
most s n e = grind (arith, nat_tests)

pub ruleset opened = (least, most)
