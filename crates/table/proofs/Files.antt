-- Rows one by one: the next one, and what is left behind it.
use Rattle.std.proofs.Common.{ℕ, suc, ◌+◌, ◌-◌, ◌≡◌, ◌<◌, ◌≤◌, List, [], ◌∷◌, sym, ap, ◌∙◌, arith}
use Rattle.table.specs.Layout.{row_at}
use Rattle.table.specs.Held.{record_told, record_at}
use Rattle.table.specs.Rows.{filed_at, filed_from}
use Rattle.table.specs.declared.check.TableHeader.{TableHeader}
use Rattle.table.specs.declared.check.Row.{Row}

module _ (t : List ℕ) (h : TableHeader) where
  some_of : (k i j : ℕ) → k ≡ suc j → filed_from t h k i ≡ filed_at t h i ∷ filed_from t h j (i + 1)
  unfolding filed_from
  some_of k i j e = ap (λ (n : ℕ). filed_from t h n i) e

  pub next_filed : (n i : ℕ) (r : Row) (b : List ℕ) → i < n → r ≡ row_at t h i → b ≡ record_told t h r
      → filed_from t h (n - i) i ≡ record { row = r; bytes = b } ∷ filed_from t h (n - (i + 1)) (i + 1)
  unfolding record_at
  next_filed n i r b l u v =
      some_of (n - i) i (n - (i + 1)) (omega arith)
      ∙ ap (λ (x : Row). record { row = x; bytes = record_told t h x } ∷ filed_from t h (n - (i + 1)) (i + 1)) (sym u)
      ∙ ap (λ (c : List ℕ). record { row = r; bytes = c } ∷ filed_from t h (n - (i + 1)) (i + 1)) (sym v)

  none_of : (k i : ℕ) → k ≡ 0 → filed_from t h k i ≡ []
  unfolding filed_from
  none_of k i e = ap (λ (n : ℕ). filed_from t h n i) e

  pub no_filed : (n i : ℕ) → n ≤ i → filed_from t h (n - i) i ≡ []
  no_filed n i l = none_of (n - i) i (omega arith)

pub ruleset files = (next_filed, no_filed)
