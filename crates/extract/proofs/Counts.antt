-- Each record is counted once.
use Rattle.std.proofs.Common.{ℕ, zero, suc, ◌+◌, ◌≡◌, refl, arith, length, length-append}
use Rattle.extract.specs.Fixup.{Verdict, left_out, refused, sound}
use Rattle.extract.specs.Records.{verdict_at, row_by, left_by, refused_by, rows_below, left_below, refused_below}
use Rattle.extract.specs.declared.Extract.{Extract}

module _ (x : Extract) where
  counted_once : (i : ℕ) (v : Verdict) → length (row_by x i v) + left_by v + refused_by v ≡ 1
  counted_once i left_out = refl
  counted_once i (refused c) = refl
  counted_once i (sound b) = refl

  pub counts_below : (n : ℕ) → length (rows_below x n) + left_below x n + refused_below x n ≡ n
  unfolding rows_below left_below refused_below
  counts_below zero = refl
  counts_below (suc i) =
      let v = verdict_at x i in
      let a = length-append (rows_below x i) (row_by x i v) in
      let b = counted_once i v in
      let c = counts_below i in
      omega arith
