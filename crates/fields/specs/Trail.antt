-- What a step at a place gives, again and again, each time further on by the size of what it gave (RULES 5, 9).
use Rattle.std.specs.Prelude.{ℕ, zero, suc, ◌+◌, ◌-◌, List, [], ◌∷◌}
use Rattle.fields.specs.Answer.{Outcome, Answer, gives, ends, refuses}

module _ {A : Type 0} (step : ℕ → Answer A) (size : A → ℕ) where
  -- what comes of a step's answer at a place, where k gives what comes from a later one; a refusal is the last
  unfoldable pub behind : (ℕ → List (Outcome A)) → ℕ → Answer A → List (Outcome A)
  behind k at (gives x) = gives x ∷ k (at + size x)
  behind k at ends = []
  behind k at (refuses r) = refuses r ∷ []

  -- at most f steps from a place
  unfoldable pub run : ℕ → ℕ → List (Outcome A)
  run zero at = []
  run (suc f) at = behind (run f) at (step at)

  -- to the end of m bytes: each thing given takes bytes, so one step more than there are bytes suffices
  unfoldable pub trail : ℕ → ℕ → List (Outcome A)
  trail m at = run (suc (m - at)) at
