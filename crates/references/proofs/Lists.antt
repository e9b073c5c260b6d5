-- Numbers among others, and what stands behind those that are told.
use Rattle.std.proofs.Common.{ℕ, ◌+◌, ◌-◌, ◌≡◌, List, [], ◌∷◌, ◌++◌, length, drop}
use Rattle.std.proofs.Common.{eqb, refl, sym, ap, ◌∙◌, arith}
use Rattle.std.specs.Prelude.{◌||◌, set, replicate}
use Rattle.std.specs.List.{list_any}
use Rattle.std.proofs.Math.Bool.{or-false, or_assoc}
use Rattle.std.proofs.lemmas.Bool.Decides.{nat_tests}
use Rattle.std.proofs.lemmas.List.{drop-set-lt, drop-drop, drop-replicate, length-set}
use Rattle.fields.specs.declared.RecordNumber.{RecordNumber}
use Rattle.references.specs.References.{among}
use Rattle.references.specs.Zeros.{ZerosBehind}

-- std's test for a number is the definition's
pub any_among : (m : RecordNumber) (xs : List RecordNumber) → list_any (λ y. eqb y.0 m.0) xs ≡ among xs m
unfolding among
any_among m [] = refl
any_among m (x ∷ xs) = ap (λ t. eqb x.0 m.0 || t) (any_among m xs)

-- zeros behind so many places are zeros behind one more
pub zeros_more : (k : ℕ) (xs : List RecordNumber) (m : RecordNumber) → ZerosBehind k xs
    → ZerosBehind (k + 1) (set xs k m)
zeros_more k xs m z =
    drop-set-lt (k + 1) xs k m (omega arith)
    ∙ sym (drop-drop 1 k xs)
    ∙ ap (drop 1) z
    ∙ drop-replicate 1 (length xs - k) (record { 0 = 0 })
    ∙ ap (λ (j : ℕ). replicate j (record { 0 = 0 })) (omega (arith, length-set xs k m))

-- the test for one number is the same from both sides
pub eqb_turned : (a b : ℕ) → eqb a b ≡ eqb b a
eqb_turned a b = grind (arith, nat_tests)

pub among_push : (xs : List RecordNumber) (x m : RecordNumber) → among (xs ++ x ∷ []) m ≡ (among xs m || eqb x.0 m.0)
unfolding among
among_push [] x m = or-false (eqb x.0 m.0)
among_push (y ∷ ys) x m =
    ap (λ t. eqb y.0 m.0 || t) (among_push ys x m)
    ∙ sym (or_assoc (eqb y.0 m.0) (among ys m) (eqb x.0 m.0))
