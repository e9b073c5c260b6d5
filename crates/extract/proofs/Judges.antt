-- What the loop over a record's pairs finds.
use Rattle.std.proofs.Common.{ℕ, zero, suc, ◌+◌, ◌/◌, ◌<◌, ◌≤◌, ◌≡◌, Bool, true, false, refl, sym, ap, ◌∙◌, subst}
use Rattle.std.proofs.Common.{List, ◌++◌, length, take, drop, arith, add-one, ⊎_elim, drop-drop}
use native.Mathlib.Nat.{eq-or-lt_of_le, le_of_suc-le-suc}
use Rattle.std.proofs.lemmas.Bool.{and_parts, and_from, eq-eqb, eqb-true}
use borrow.Rule.Slice.PartMut.{put_mid}
use Rattle.fields.specs.Le.{le}
use Rattle.extract.specs.Fixup.{array_at, pair_at, kept_at, good_array, pairs_agree, fixed_below}
use Rattle.written.specs.Over.{over}
use Rattle.extract.proofs.Overs.{length_over}
use Rattle.extract.proofs.Pairs.{good_parts}

-- the check number lies inside the record
pub check_inside : (s : List ℕ) → good_array s ≡ true → array_at s + 2 ≤ length s
check_inside s e = let g = good_parts s e in omega (arith, g.inside, g.sized)

pub one_agrees : (s : List ℕ) (i : ℕ) → pairs_agree s i ≡ true → le 2 s (pair_at i) ≡ le 2 s (array_at s)
    → pairs_agree s (i + 1) ≡ true
unfolding pairs_agree
one_agrees s i h e = ap (pairs_agree s) (add-one i) ∙ and_from _ _ h (eq-eqb _ _ e)

agree_one : (s : List ℕ) (n i : ℕ) → pairs_agree s n ≡ true → i < n → le 2 s (pair_at i) ≡ le 2 s (array_at s)
unfolding pairs_agree
agree_one s zero i e l = absurd (omega arith)
agree_one s (suc n) i e l =
    let p = and_parts _ _ e in
    ⊎_elim
    (λ q. subst (λ (k : ℕ). le 2 s (pair_at k) ≡ le 2 s (array_at s)) (sym q) (eqb-true _ _ p.1))
    (λ m. agree_one s n i p.0 m)
    (eq-or-lt_of_le (le_of_suc-le-suc l))

false_from : (b : Bool) → (b ≡ true → ⊥) → false ≡ b
false_from true h = absurd (h refl)
false_from false h = refl

pub one_differs : (s : List ℕ) (i n : ℕ) → i < n → (le 2 s (pair_at i) ≡ le 2 s (array_at s) → ⊥)
    → false ≡ pairs_agree s n
one_differs s i n l h = false_from (pairs_agree s n) (λ e. h (agree_one s n i e l))

-- what the array keeps for a pair lies inside the record
pub kept_inside : (s : List ℕ) (i : ℕ) → good_array s ≡ true → i < length s / 512 → kept_at s i + 2 ≤ length s
kept_inside s i e l = let g = good_parts s e in omega (arith, g.inside, g.sized)

-- a pair written over what stood in its place
pub over_mid : (at k : ℕ) (s b : List ℕ) → length b ≡ k → put_mid at k s b ≡ over at b s
over_mid at k s b e =
    ap (λ (t : List ℕ). take at s ++ (b ++ t))
    (drop-drop k at s ∙ ap (λ (n : ℕ). drop n s) (ap (λ (n : ℕ). at + n) (sym e)))

pub one_long : (at k : ℕ) (s b : List ℕ) → k ≡ 2 → length b ≡ 2 → at + 2 ≤ length s
    → length (put_mid at k s b) ≡ length s
one_long at k s b n l h = ap length (over_mid at k s b (l ∙ sym n)) ∙ length_over at b s (omega arith)

pub one_fixed : (s room b : List ℕ) (i at k : ℕ) → room ≡ fixed_below s i → at ≡ pair_at i → k ≡ 2
    → b ≡ take 2 (drop (kept_at s i) s) → length b ≡ 2 → put_mid at k room b ≡ fixed_below s (i + 1)
unfolding fixed_below
one_fixed s room b i at k r a n e l =
    over_mid at k room b (l ∙ sym n)
    ∙ ap (λ (t : List ℕ). over at b t) r ∙ ap (λ (m : ℕ). over m b (fixed_below s i)) a
    ∙ ap (λ (t : List ℕ). over (pair_at i) t (fixed_below s i)) e ∙ ap (fixed_below s) (sym (add-one i))
