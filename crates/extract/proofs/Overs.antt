-- What is written over the bytes at a place stands there, and all else stays.
use Rattle.std.proofs.Common.{ℕ, zero, suc, ◌+◌, ◌<◌, ◌≤◌, ◌≡◌, List, length, take, drop, get_or, ◌⊎◌}
use Rattle.std.proofs.Common.{refl, sym, ◌∙◌, arith, rules, ⊎_elim}
use Rattle.std.proofs.lemmas.List.{places, length-take, get_or-take, ext_get_or}
use native.Mathlib.Nat.{add-zero, add_assoc}
use native.Mathlib.Numerals.{one-add}
use Rattle.fields.specs.Le.{le}
use Rattle.written.specs.Over.{over}

module _ (at : ℕ) (bytes s : List ℕ) (fits : at + length bytes ≤ length s) where
  pub length_over : length (over at bytes s) ≡ length s
  length_over = grind (arith, places)

  pub over_inside : (j : ℕ) → j < length bytes → get_or (over at bytes s) (at + j) 0 ≡ get_or bytes j 0
  over_inside j l = grind (arith, places)

  pub over_before : (k : ℕ) → k < at → get_or (over at bytes s) k 0 ≡ get_or s k 0
  over_before k l = grind (arith, places)

  pub over_behind : (k : ℕ) → at + length bytes ≤ k → get_or (over at bytes s) k 0 ≡ get_or s k 0
  over_behind k l = grind (arith, places)

  pub over_beside : (k : ℕ) → (k < at) ⊎ (at + length bytes ≤ k) → get_or (over at bytes s) k 0 ≡ get_or s k 0
  over_beside k h = ⊎_elim (over_before k) (over_behind k) h

-- n bytes from a place on
module _ (n i : ℕ) (s : List ℕ) where
  pub length_part : i + n ≤ length s → length (take n (drop i s)) ≡ n
  length_part l = grind (arith, places)

  pub part_at : (j : ℕ) → j < n → get_or (take n (drop i s)) j 0 ≡ get_or s (i + j) 0
  part_at j l = search (rules, places)

-- the number at a place is settled by its bytes
pub le_by_bytes : (w i k : ℕ) (s t : List ℕ) → ((j : ℕ) → j < w → get_or s (i + j) 0 ≡ get_or t (k + j) 0)
    → le w s i ≡ le w t k
unfolding le
le_by_bytes zero i k s t h = refl
le_by_bytes (suc w) i k s t h =
    let f = simp add-zero at (h 0 (omega arith)) in
    let r = le_by_bytes w (i + 1) (k + 1) s t (λ j l. simp (add_assoc, one-add) (h (suc j) (omega arith))) in
    rw (f, r) refl

-- and the bytes in front of a place by each of them
pub take_by_bytes : (w : ℕ) (s t : List ℕ) → length s ≡ length t
    → ((k : ℕ) → k < w → get_or s k 0 ≡ get_or t k 0) → take w s ≡ take w t
take_by_bytes w s t l h =
    let a = length-take w s in
    let b = length-take w t in
    ext_get_or 0 (take w s) (take w t) (omega arith)
    (λ k m. get_or-take w s k 0 (omega arith) ∙ h k (omega arith) ∙ sym (get_or-take w t k 0 (omega arith)))
