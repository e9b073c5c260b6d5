-- The first row with a number, sought in turn: any search finds that row, and the table's record with the number is the
-- one that it tells.
use Prim.Native.Nat.{ℕ, zero, suc, ◌+◌, ◌≤◌, ◌<◌}
use mathlib.Core.Path.{◌≡◌, refl, sym, ap, subst, ◌∙◌}
use mathlib.Core.Bool.{Bool, true, false}
use mathlib.Core.List.{List}
use mathlib.Core.Logic.{⊎_elim}
use Rattle.std.specs.Prelude.{Option, Some, None, option_map}
use native.Mathlib.Omega.{arith}
use native.Mathlib.Nat.{eq-or-lt_of_le}
use Rattle.fields.specs.Pick.{pick}
use Rattle.fields.specs.declared.RecordNumber.{RecordNumber}
use Rattle.fields.proofs.Cases.{eq-y, eq-n, either}
use Rattle.table.specs.Layout.{numbers_at, row_at}
use Rattle.table.specs.Held.{record_told, record_at, held_at, held_from, held_of, record_in, record_of}
use Rattle.table.specs.Row.{IsRow, first_from, first_row}
use Rattle.table.specs.declared.check.TableHeader.{TableHeader}
use Rattle.table.specs.declared.check.Row.{Row}
use Rattle.table.proofs.Sound.{Sound, one-row}

-- a row that is one of the first k
pub record Among (t : List ℕ) (h : TableHeader) (k : ℕ) (r : Row) : Type 0 where
  pub place : ℕ
  pub inside : place < k
  pub is : row_at t h place ≡ r

module _ (t : List ℕ) (h : TableHeader) (n : RecordNumber) where
  none_from : (k i : ℕ) → ((j : ℕ) → j < i + k → (row_at t h j).number.0 ≡ n.0 → ⊥) → first_from t h n k i ≡ None
  unfolding first_from
  none_from zero i f = refl
  none_from (suc k) i f =
      sym (eq-n _ _ _ _ (f i (omega arith)) (sym (none_from k (i + 1) (λ j l. f j (omega arith)))))

  some_from : (k i j : ℕ) → ((a : ℕ) → a < j → (row_at t h a).number.0 ≡ n.0 → ⊥)
      → (row_at t h j).number.0 ≡ n.0 → i ≤ j → j < i + k → first_from t h n k i ≡ Some (row_at t h j)
  unfolding first_from
  some_from zero i j f e l m = absurd (omega arith)
  some_from (suc k) i j f e l m =
      ⊎_elim
      (λ q. sym (eq-y _ _ _ _
      (subst (λ (x : ℕ). (row_at t h x).number.0 ≡ n.0) (sym q) e)
      (ap (λ (x : ℕ). Some (row_at t h x)) (sym q))))
      (λ q. sym (eq-n _ _ _ _ (f i q) (sym (some_from k (i + 1) j f e (omega arith) (omega arith)))))
      (eq-or-lt_of_le l)

  among-from : (k i : ℕ) (r : Row) → first_from t h n k i ≡ Some r → Among t h (i + k) r
  unfolding first_from
  among-from zero i r e = cc
  among-from (suc k) i r e =
      ⊎_elim
      (λ (q : Some (row_at t h i) ≡ Some r). record { place = i; inside = omega arith; is = cc })
      (λ q. let a = among-from k (i + 1) r q in record { place = a.place; inside = omega (arith, a.inside); is = a.is })
      (either _ _ _ _ e)

  told_first : (b : Bool) (r : Row) (x : Option (List ℕ)) (y : Option Row) → x ≡ option_map (record_told t h) y
      → pick b (Some (record_told t h r)) x ≡ option_map (record_told t h) (pick b (Some r) y)
  told_first true r x y e = refl
  told_first false r x y e = e

  told_from : (k i : ℕ) → record_in (held_from t h k i) n ≡ option_map (record_told t h) (first_from t h n k i)
  unfolding first_from record_in held_from held_at record_at
  told_from zero i = refl
  told_from (suc k) i = told_first _ _ _ _ (told_from k (i + 1))

  -- the table's record with a number is the one that the first row with it tells
  pub record_told_first : h ≡ numbers_at t → record_of t n ≡ option_map (record_told t h) (first_row t h n)
  unfolding record_of held_of first_row
  record_told_first e =
      subst
      (λ (x : TableHeader). record_in (held_from t x x.count 0) n ≡ option_map (record_told t h) (first_row t h n))
      e (told_from h.count 0)

  -- the first row with a number is a row of the table
  pub first_among : (r : Row) → first_row t h n ≡ Some r → Among t h h.count r
  unfolding first_row
  first_among r e =
      let a = among-from h.count 0 r e in record { place = a.place; inside = omega (arith, a.inside); is = a.is }

module _ {t : List ℕ} {h : TableHeader} (s : Sound t h) (n : RecordNumber) where
  -- whatever the order of a search, it finds the first row
  pub first_found : (o : Option ℕ) → IsRow t h n o → first_row t h n ≡ option_map (row_at t h) o
  unfolding first_row
  first_found None p = none_from t h n h.count 0 (λ j l. p j (omega arith))
  first_found (Some i) p =
      some_from t h n h.count 0 i
      (λ a l e. omega (arith, one-row s a i (omega arith) p.0 (e ∙ sym p.1))) p.1 (omega arith) (omega arith)
