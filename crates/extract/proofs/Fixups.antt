-- What 29 asks of an array, and what a fixup changes, byte by byte: the laws.
use Rattle.std.proofs.Common.{ℕ, ◌∙◌, take, drop, inl, inr, ⊎_elim, arith}
use Rattle.extract.specs.Fixup.{pair_count, kept_at, fixed_below}
use Rattle.extract.specs.Laws.{ArraysAreClear, ClearArraysAreGood, PairsAreReplaced}
use Rattle.extract.proofs.Overs.{part_at}
use Rattle.extract.proofs.Pairs.{good_parts, good_from_parts, fixes}
use Rattle.extract.proofs.Pairs.{replaced_length, replaced_at, replaced_beside}

pub arrays_are_clear : ArraysAreClear
arrays_are_clear s e =
    let g = good_parts s e in (
      g.inside,
      omega (arith, g.sized),
      λ i j l b. ⊎_elim (λ p. inr (omega arith)) (λ q. inl (omega arith)) (g.clear i l),
    )

pub clear_arrays_are_good : ClearArraysAreGood
clear_arrays_are_good s l z h = good_from_parts s (record {
  inside = l;
  clear = λ i m. ⊎_elim
      (λ a. ⊎_elim (λ b. inr (omega arith)) (λ b. absurd (omega arith)) (h i 1 m (omega arith)))
      (λ a. inl (omega arith))
      (h i 0 m (omega arith));
  sized = z;
})

pub pairs_are_replaced : PairsAreReplaced
pairs_are_replaced s e =
    let g = good_parts s e in
    let f = fixes s g in
    let two = λ (i : ℕ). take 2 (drop (kept_at s i) s) in
    let n = pair_count s in (
      replaced_length s two (fixed_below s) f n (omega arith),
      (λ i j l b. replaced_at s two (fixed_below s) f n i j (omega arith) l b ∙ part_at 2 (kept_at s i) s j b),
      (λ k h. replaced_beside s two (fixed_below s) f n k (omega arith) h),
    )
