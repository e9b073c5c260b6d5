-- A step is the first of a trail, and what comes from behind it is the rest.
use Rattle.std.proofs.Common.{ℕ, zero, suc, ◌+◌, ◌-◌, ◌<◌, ◌≤◌, ◌≡◌, List, [], ◌∷◌, refl, sym, ap}
use Rattle.std.proofs.Common.{◌∙◌, arith}
use Rattle.fields.specs.Answer.{Answer, gives, ends, refuses, Outcome}
use Rattle.fields.specs.Trail.{behind, run, trail}
use Rattle.fields.specs.declared.Refusal.{Refusal}

-- a thing that was given takes bytes, and ends inside
pub record Moves (m at by : ℕ) : Type 0 where
  pub least : 16 ≤ by
  pub most : at + by ≤ m

module _ {A : Type 0} (step : ℕ → Answer A) (size : A → ℕ) (m : ℕ)
    (moves : (at : ℕ) (x : A) → step at ≡ gives x → Moves m at (size x)) where
  behind-same : (f g at : ℕ) → ((b : ℕ) → m - b < f → m - b < g → run step size f b ≡ run step size g b)
      → m - at < suc f → m - at < suc g → (a : Answer A) → step at ≡ a
      → behind step size (run step size f) at a ≡ behind step size (run step size g) at a
  unfolding behind
  behind-same f g at ih l k (gives x) e =
      let w = moves at x e in let y = w.least in let z = w.most in
      ap (λ (t : List (Outcome A)). gives x ∷ t) (ih (at + size x) (omega arith) (omega arith))
  behind-same f g at ih l k ends e = refl
  behind-same f g at ih l k (refuses r) e = refl

  -- any two numbers of steps that suffice give the same
  pub enough : (f g at : ℕ) → m - at < f → m - at < g → run step size f at ≡ run step size g at
  unfolding run
  enough zero g at l k = absurd (omega arith)
  enough (suc f) zero at l k = absurd (omega arith)
  enough (suc f) (suc g) at l k = behind-same f g at (enough f g) l k (step at) refl

  pub moved : (at : ℕ) (x : A) → gives x ≡ step at → trail step size m at ≡ gives x ∷ trail step size m (at + size x)
  unfolding trail run behind
  moved at x e =
      let w = moves at x (sym e) in let y = w.least in let z = w.most in
      ap (behind step size (run step size (m - at)) at) (sym e)
      ∙ ap (λ (t : List (Outcome A)). gives x ∷ t)
      (enough (m - at) (suc (m - (at + size x))) (at + size x) (omega arith) (omega arith))

  pub ended : (at : ℕ) → ends ≡ step at → trail step size m at ≡ []
  unfolding trail run behind
  ended at e = ap (behind step size (run step size (m - at)) at) (sym e)

  pub refused : (at : ℕ) (r : Refusal) → refuses r ≡ step at → trail step size m at ≡ refuses r ∷ []
  unfolding trail run behind
  refused at r e = ap (behind step size (run step size (m - at)) at) (sym e)
