-- Numbers of 1 to 8 bytes are read behind 8 bytes with zeros above.
use Rattle.std.proofs.Common.{ℕ, zero, suc, ◌+◌, ◌-◌, ◌<◌, ◌≤◌, ◌≡◌, refl, sym, ap, ◌∙◌, arith}
use Rattle.std.proofs.Common.{List, ◌++◌, length, take, drop, get_or, replicate}
use Rattle.std.proofs.lemmas.List.{get_or_append_left, get_or-append_right, get_or-take, get_or-drop, length-take-le}
use Rattle.std.proofs.lemmas.List.{length-drop, drop-replicate}
use native.Mathlib.Nat.{add-zero, zero-add}
use Rattle.fields.specs.Le.{le}
use Rattle.fields.proofs.Width.{split}

-- numbers whose bytes are the same are equal
pub same : (w : ℕ) (s t : List ℕ) (i j : ℕ) → ((k : ℕ) → k < w → get_or s (i + k) 0 ≡ get_or t (j + k) 0)
    → le w s i ≡ le w t j
unfolding le
same zero s t i j h = refl
same (suc w) s t i j h =
    let a : get_or s i 0 ≡ get_or t j 0 = simp add-zero at (h 0 (omega arith)) in
    let step : (k : ℕ) → k < w → get_or s ((i + 1) + k) 0 ≡ get_or t ((j + 1) + k) 0 =
    λ k l. let e : (i + 1) + k ≡ i + (k + 1) = omega arith in let f : (j + 1) + k ≡ j + (k + 1) = omega arith in
    rw (e, f) (h (k + 1) (omega arith)) in
    rw (a, same w s t (i + 1) (j + 1) step) refl

-- and of zeros comes 0
pub none : (w : ℕ) (s : List ℕ) (i : ℕ) → ((k : ℕ) → i ≤ k → get_or s k 0 ≡ 0) → le w s i ≡ 0
unfolding le
none zero s i h = refl
none (suc w) s i h =
    let a : get_or s i 0 ≡ 0 = h i (omega arith) in
    let b = none w s (i + 1) (λ k l. h k (omega arith)) in
    rw (a, b) refl

zeros : (n k : ℕ) → get_or (replicate {A = ℕ} n 0) k 0 ≡ 0
zeros zero zero = refl
zeros zero (suc k) = refl
zeros (suc n) zero = refl
zeros (suc n) (suc k) = zeros n k

module _ (w at : ℕ) (s xs : List ℕ) (l : w ≤ 8) (m : at + w ≤ length s) (e : xs ≡ take w (drop at s)) where
  abbrev wide : List ℕ
  wide = xs ++ replicate (8 - w) 0

  size : length xs ≡ w
  size = let d = length-drop at s in rw e (length-take-le w (drop at s) (omega arith))

  low : (k : ℕ) → k < w → get_or wide (0 + k) 0 ≡ get_or s (at + k) 0
  low k h = rw (zero-add k)
      (get_or_append_left xs (replicate (8 - w) 0) 0 k (rw size h)
      ∙ ap (λ (x : List ℕ). get_or x k 0) e ∙ get_or-take w (drop at s) k 0 h ∙ get_or-drop at s k 0)

  high : (k : ℕ) → 0 + w ≤ k → get_or wide k 0 ≡ 0
  high k h = get_or-append_right xs (replicate (8 - w) 0) w k 0 size (omega arith) ∙ zeros (8 - w) (k - w)

  whole : le (w + (8 - w)) wide 0 ≡ le w s at
  whole = rw (split w (8 - w) wide 0, same w wide s 0 at low, none (8 - w) wide (0 + w) high) (omega arith)

  pub padded : le 8 (xs ++ drop w (replicate 8 0)) 0 ≡ le w s at
  padded =
      let n : w + (8 - w) ≡ 8 = omega arith in
      rw (drop-replicate {X = ℕ} w 8 0) (ap (λ n. le n wide 0) (sym n) ∙ whole)
