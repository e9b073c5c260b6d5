-- One raw record is an extract, in which it is the first and only one.
use Rattle.std.specs.Prelude.{ℕ, ◌*◌, ◌<◌, ◌≡◌, List, true, length, ltb, Some}
use Rattle.std.proofs.Common.{arith, refl}
use Rattle.std.proofs.lemmas.Bool.Decides.{nat_tests}
use Rattle.std.proofs.Math.Nat.{div_self, mod_self}
use Rattle.std.proofs.Math.Seq.{take-length}
use Rattle.fields.specs.Answer.{gives}
use Rattle.extract.specs.Size.{good_size, whole_records, sizes_checked}
use Rattle.extract.specs.Fixup.{verdict_of}
use Rattle.extract.specs.Records.{record_count, record_at}
use Rattle.extract.specs.Judge.{judged_at}
use Rattle.extract.specs.declared.Extract.{Extract}

pub size_above_0 : (n : ℕ) → good_size n ≡ true → 0 < n
unfolding good_size
size_above_0 n e = grind (arith, nat_tests)

whole : (s : List ℕ) → good_size (length s) ≡ true → whole_records (length s) s ≡ true
unfolding whole_records
whole s good =
    rw (good, mod_self (length s)) refl

pub passes : (s : List ℕ) → good_size (length s) ≡ true → sizes_checked (length s) s ≡ gives tt
unfolding sizes_checked
passes s good = rw (whole s good) refl

module _ (x : Extract) (s : List ℕ) (is : x.bytes.now ≡ s) (long : x.size ≡ length s)
    (good : good_size (length s) ≡ true) where
  pub one : record_count x ≡ 1
  one =
      rw (is, long) (div_self (size_above_0 (length s) good))

  pub alone : record_at x 0 ≡ s
  unfolding record_at
  alone =
      let front : length s * 0 ≡ 0 = omega arith in
      rw (is, long, front) (take-length s)

  pub judged : judged_at x 0 ≡ Some (verdict_of s)
  judged =
      let l : ltb 0 (record_count x) ≡ true = rw one refl in
      rw (l, alone) refl
