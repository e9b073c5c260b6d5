-- A record that was protected is read as it was: what protecting leaves at each place, and what the fixup makes of it.
use Rattle.std.proofs.Common.{ℕ, zero, suc, ◌+◌, ◌-◌, ◌*◌, ◌/◌, ◌<◌, ◌≤◌, ◌≡◌, refl, sym, ap, ◌∙◌, subst, arith}
use Rattle.std.proofs.Common.{List, ◌++◌, length, take, drop, get_or, true, ◌⊎◌, inl, inr, ⊎_elim}
use Rattle.std.specs.Prelude.{bytes_eq}
use Rattle.std.proofs.lemmas.List.{places, length-append, get_or_append_left, get_or-append-add, get_or-append_right}
use native.Mathlib.Nat.{eq-or-lt_of_le, le_of_suc-le-suc}
use Rattle.fields.specs.Le.{le}
use Rattle.fields.specs.LeBytes.{le_bytes}
use Rattle.fields.proofs.Cases.{yes}
use Rattle.record.specs.Open.{FILE, is_file}
use Rattle.written.specs.Over.{over}
use Rattle.extract.specs.Fixup.{array_at, array_count, array_end, pair_count, pair_at, kept_at}
use Rattle.extract.specs.Fixup.{good_array, pairs_agree, fixed_up, fixed_below, sound, verdict_of}
use Rattle.extract.specs.Protect.{pairs_of, checked_below, protected}
use Rattle.extract.specs.Laws.{ReadAsProtected}
use Rattle.extract.proofs.Overs.{length_over, over_inside, over_beside}
use Rattle.extract.proofs.Overs.{length_part, part_at, le_by_bytes, take_by_bytes}
use Rattle.extract.proofs.Pairs.{GoodArray, good_parts, good_from_parts, agree_from, Beside, Replaces, fixes}
use Rattle.extract.proofs.Pairs.{within_or_beside, replaced_length, replaced_at, replaced_beside}

-- the pairs one behind another
pub length_pairs : (s : List ℕ) (n : ℕ) → n ≤ pair_count s → length (pairs_of s n) ≡ 2 * n
unfolding pairs_of
length_pairs s zero l = omega arith
length_pairs s (suc n) l =
    let k = length_pairs s n (omega arith) in
    let z = length_part 2 (pair_at n) s (omega arith) in
    grind (arith, places)

last_pair : (s ps : List ℕ) (n j : ℕ) → length ps ≡ 2 * n → j < 2
    → get_or (ps ++ take 2 (drop (pair_at n) s)) (2 * n + j) 0 ≡ get_or s (pair_at n + j) 0
last_pair s ps n j z b =
    let e : 2 * n + j - 2 * n ≡ j = omega arith in
    get_or-append_right ps (take 2 (drop (pair_at n) s)) (2 * n) (2 * n + j) 0 z (omega arith)
    ∙ ap (λ (x : ℕ). get_or (take 2 (drop (pair_at n) s)) x 0) e ∙ part_at 2 (pair_at n) s j b

pub pairs_at : (s : List ℕ) (n i j : ℕ) → n ≤ pair_count s → i < n → j < 2
    → get_or (pairs_of s n) (2 * i + j) 0 ≡ get_or s (pair_at i + j) 0
unfolding pairs_of
pairs_at s zero i j l m b = absurd (omega arith)
pairs_at s (suc n) i j l m b =
    let z = length_pairs s n (omega arith) in
    ⊎_elim
    (λ q. subst (λ (x : ℕ). get_or (pairs_of s n ++ take 2 (drop (pair_at n) s)) (2 * x + j) 0
    ≡ get_or s (pair_at x + j) 0) (sym q) (last_pair s (pairs_of s n) n j z b))
    (λ a. get_or_append_left (pairs_of s n) _ 0 (2 * i + j) (omega arith) ∙ pairs_at s n i j (omega arith) a b)
    (eq-or-lt_of_le (le_of_suc-le-suc m))

-- the check number's two bytes
length_check : (n : ℕ) → length (le_bytes 2 n) ≡ 2
unfolding le_bytes
length_check n = refl

module _ (n : ℕ) (s : List ℕ) (g : GoodArray s) where
  abbrev check : List ℕ
  check = le_bytes 2 n

  abbrev array : List ℕ
  array = check ++ pairs_of s (pair_count s)

  abbrev checked : ℕ → List ℕ
  checked = checked_below check s

  checks : Replaces s (λ i. check) checked
  unfolding checked_below
  checks = record { none = refl; next = λ i. refl; sized = λ i l. length_check n }

  length_array : length array ≡ 2 * (pair_count s + 1)
  length_array =
      let k = length_pairs s (pair_count s) (omega arith) in
      let z = length_check n in
      length-append check (pairs_of s (pair_count s)) ∙ omega arith

  ends : array_at s + length array ≡ array_end s
  ends = let z = length_array in let k = g.sized in omega arith

  length_checked : length (checked (pair_count s)) ≡ length s
  length_checked = replaced_length s (λ i. check) checked checks (pair_count s) (omega arith)

  array_fits : array_at s + length array ≤ length (checked (pair_count s))
  array_fits = let a = ends in let b = g.inside in let k = length_checked in omega arith

  pub length_protected : length (protected n s) ≡ length s
  unfolding protected
  length_protected = length_over (array_at s) array (checked (pair_count s)) array_fits ∙ length_checked

  -- what is none of the array's bytes, and no pair's, stays
  pub protected_beside : (k : ℕ) → Beside (pair_count s) k → (k < array_at s) ⊎ (array_end s ≤ k)
      → get_or (protected n s) k 0 ≡ get_or s k 0
  unfolding protected
  protected_beside k h o =
      over_beside (array_at s) array (checked (pair_count s)) array_fits k
      (⊎_elim (λ a. inl a) (λ b. inr (let z = ends in omega arith)) o)
      ∙ replaced_beside s (λ i. check) checked checks (pair_count s) k (omega arith) h

  pub protected_pair : (i j : ℕ) → i < pair_count s → j < 2
      → get_or (protected n s) (pair_at i + j) 0 ≡ get_or check j 0
  unfolding protected
  protected_pair i j l b =
      over_beside (array_at s) array (checked (pair_count s)) array_fits (pair_at i + j)
      (let z = ends in ⊎_elim (λ a. inr (omega arith)) (λ a. inl (omega arith)) (g.clear i l))
      ∙ replaced_at s (λ i. check) checked checks (pair_count s) i j (omega arith) l b

  pub protected_check : (j : ℕ) → j < 2 → get_or (protected n s) (array_at s + j) 0 ≡ get_or check j 0
  unfolding protected
  protected_check j b =
      let z = length_array in
      over_inside (array_at s) array (checked (pair_count s)) array_fits j (omega arith)
      ∙ get_or_append_left check _ 0 j (rw (length_check n) b)

  pub protected_kept : (i j : ℕ) → i < pair_count s → j < 2
      → get_or (protected n s) (kept_at s i + j) 0 ≡ get_or s (pair_at i + j) 0
  unfolding protected le_bytes
  protected_kept i j l b =
      let z = length_array in
      let e : kept_at s i + j ≡ array_at s + (2 + (2 * i + j)) = omega arith in
      ap (λ (x : ℕ). get_or (over (array_at s) array (checked (pair_count s))) x 0) e
      ∙ over_inside (array_at s) array (checked (pair_count s)) array_fits (2 + (2 * i + j)) (omega arith)
      ∙ get_or-append-add check (pairs_of s (pair_count s)) (2 * i + j) 0
      ∙ pairs_at s (pair_count s) i j (omega arith) l b

-- so the fields that name the array stay, and the record is sound
module _ (n : ℕ) (s : List ℕ) (g : GoodArray s) (behind : 8 ≤ array_at s) where
  begins : (k : ℕ) → k < 8 → get_or (protected n s) k 0 ≡ get_or s k 0
  begins k l = protected_beside n s g k (λ i j m b e. omega arith) (inl (omega arith))

  same_at : array_at (protected n s) ≡ array_at s
  same_at = le_by_bytes 2 4 4 (protected n s) s (λ j b. begins (4 + j) (omega arith))

  same_count : array_count (protected n s) ≡ array_count s
  same_count = le_by_bytes 2 6 6 (protected n s) s (λ j b. begins (6 + j) (omega arith))

  same_pairs : pair_count (protected n s) ≡ pair_count s
  same_pairs = ap (λ (x : ℕ). x / 512) (length_protected n s g)

  good_protected : GoodArray (protected n s)
  good_protected =
      let a = same_at in
      let c = same_count in
      let p = same_pairs in
      let z = length_protected n s g in
      let o = g.inside in
      let k = g.sized in
      record {
        inside = omega arith;
        clear = λ i l. ⊎_elim (λ e. inl (omega arith)) (λ e. inr (omega arith)) (g.clear i (omega arith));
        sized = omega arith;
      }

  file_protected : is_file s ≡ true → is_file (protected n s) ≡ true
  unfolding is_file
  file_protected e =
      ap (λ (t : List ℕ). bytes_eq t FILE)
      (take_by_bytes 4 (protected n s) s (length_protected n s g) (λ k l. begins k (omega arith))) ∙ e

  agrees : pairs_agree (protected n s) (pair_count (protected n s)) ≡ true
  agrees = agree_from (protected n s) (pair_count (protected n s)) (λ i l.
      le_by_bytes 2 (pair_at i) (array_at s) (protected n s) (protected n s)
      (λ j b. protected_pair n s g i j (let p = same_pairs in omega arith) b ∙ sym (protected_check n s g j b))
      ∙ ap (le 2 (protected n s)) (sym same_at))

  protected_sound : is_file s ≡ true → verdict_of (protected n s) ≡ sound (fixed_up (protected n s))
  unfolding verdict_of
  protected_sound e =
      sym (yes (is_file (protected n s)) _ _ (file_protected e)
      (yes (good_array (protected n s)) _ _ (good_from_parts (protected n s) good_protected)
      (yes (pairs_agree (protected n s) (pair_count (protected n s))) _ _ agrees refl)))

  abbrev kept : ℕ → List ℕ
  kept i = take 2 (drop (kept_at (protected n s) i) (protected n s))

  restores : Replaces (protected n s) kept (fixed_below (protected n s))
  restores = fixes (protected n s) good_protected

  length_restored : length (fixed_up (protected n s)) ≡ length s
  length_restored =
      replaced_length (protected n s) kept (fixed_below (protected n s)) restores _ (omega arith)
      ∙ length_protected n s g

  pair_restored : (i j : ℕ) → i < pair_count s → j < 2
      → get_or (fixed_up (protected n s)) (pair_at i + j) 0 ≡ get_or s (pair_at i + j) 0
  pair_restored i j l b =
      let p = same_pairs in
      let e : kept_at (protected n s) i + j ≡ kept_at s i + j = let a = same_at in omega arith in
      replaced_at (protected n s) kept (fixed_below (protected n s)) restores _ i j (omega arith) (omega arith) b
      ∙ part_at 2 (kept_at (protected n s) i) (protected n s) j b
      ∙ ap (λ (x : ℕ). get_or (protected n s) x 0) e ∙ protected_kept n s g i j l b

  beside_restored : (k : ℕ) → Beside (pair_count s) k → (k < array_at s) ⊎ (array_end s ≤ k)
      → get_or (fixed_up (protected n s)) k 0 ≡ get_or s k 0
  beside_restored k h o =
      let p = same_pairs in
      replaced_beside (protected n s) kept (fixed_below (protected n s)) restores _ k (omega arith)
      (λ i j l b. h i j (omega arith) b)
      ∙ protected_beside n s g k h o

  restored : (k : ℕ) → (k < array_at s) ⊎ (array_end s ≤ k) → get_or (fixed_up (protected n s)) k 0 ≡ get_or s k 0
  restored k o =
      ⊎_elim
      (λ w. subst (λ (x : ℕ). get_or (fixed_up (protected n s)) x 0 ≡ get_or s x 0) (sym w.stands)
      (pair_restored w.pair w.byte w.below w.two))
      (λ h. beside_restored k h o)
      (within_or_beside (pair_count s) k)

pub read_as_protected : ReadAsProtected
read_as_protected n s e o a =
    let g = good_parts s a in
    (fixed_up (protected n s), protected_sound n s g o e, length_restored n s g o, restored n s g o)
