-- Rows gone through in turn: whether one of those that are left has the number.
use Rattle.std.proofs.Common.{ℕ, zero, suc, ◌+◌, ◌≡◌, Bool, true, false, List, [], ◌∷◌, refl, sym, ap, ◌∙◌}
use Rattle.std.specs.Prelude.{eqb, Option, Some, None, is_some, option_map}
use Rattle.fields.specs.Pick.{pick}
use Rattle.fields.proofs.Cases.{eq-y, eq-n}
use Rattle.fields.specs.Answer.{gives}
use Rattle.table.specs.Layout.{row_at}
use Rattle.table.specs.Check.{table_of}
use Rattle.table.specs.Held.{record_told}
use Rattle.table.specs.Laws.{FirstIsTold}
use Rattle.table.specs.Row.{first_from, first_row}
use Rattle.table.specs.Rows.{Filed, filed_from, filed_of}
use Rattle.table.specs.declared.check.Row.{Row}
use Rattle.table.specs.declared.check.TableHeader.{TableHeader}
use Rattle.lookups.specs.Wanted.{has}

-- whether one of these rows has a number
pub left : List Filed → ℕ → Bool
left [] n = false
left (x ∷ xs) n = pick (eqb x.row.number.0 n) true (left xs n)

some_first : (b : Bool) (r : Row) (o : Option Row) → pick b true (is_some o) ≡ is_some (pick b (Some r) o)
some_first true r o = refl
some_first false r o = refl

left_from : (t : List ℕ) (h : TableHeader) (n k i : ℕ)
    → left (filed_from t h k i) n ≡ is_some (first_from t h (record { 0 = n }) k i)
unfolding left filed_from first_from
left_from t h n zero i = refl
left_from t h n (suc k) i =
    ap (pick (eqb (row_at t h i).number.0 n) true) (left_from t h n k (i + 1)) ∙ some_first _ (row_at t h i) _

some_told : (t : List ℕ) (h : TableHeader) (o : Option Row) → is_some (option_map (record_told t h) o) ≡ is_some o
some_told t h (Some r) = refl
some_told t h None = refl

module _ (t : List ℕ) (h : TableHeader) (n : ℕ) where
  -- before the first row all are left
  pub before_all : (xs : List Filed) → FirstIsTold → table_of t ≡ gives h → xs ≡ filed_of t h → left xs n ≡ has t n
  unfolding first_row
  before_all xs f e q =
      ap (λ (ys : List Filed). left ys n) q
      ∙ left_from t h n h.count 0
      ∙ sym (some_told t h _)
      ∙ sym (ap is_some (f t h e (record { 0 = n })))

module _ (n : ℕ) (b : Bool) (xs ys : List Filed) (x : Filed) where
  pub found : xs ≡ x ∷ ys → left xs n ≡ b → x.row.number.0 ≡ n → true ≡ b
  unfolding left
  found q l e = eq-y _ _ _ _ e refl ∙ sym (ap (λ (zs : List Filed). left zs n) q) ∙ l

  pub passed : xs ≡ x ∷ ys → left xs n ≡ b → (x.row.number.0 ≡ n → ⊥) → left ys n ≡ b
  unfolding left
  passed q l e = eq-n _ _ _ _ e refl ∙ sym (ap (λ (zs : List Filed). left zs n) q) ∙ l

pub passed_all : (n : ℕ) (b : Bool) (xs : List Filed) → xs ≡ [] → left xs n ≡ b → false ≡ b
unfolding left
passed_all n b xs q l = sym (ap (λ (zs : List Filed). left zs n) q) ∙ l

pub ruleset in_turn = (before_all, found, passed, passed_all)
