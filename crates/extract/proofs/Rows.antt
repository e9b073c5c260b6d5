-- The rows of the records in front of a position: whose number is too large, and that they only grow.
use Rattle.std.proofs.Common.{ℕ, zero, suc, ◌+◌, ◌*◌, ◌<◌, ◌≤◌, ◌≡◌, refl, sym, ap, subst, ◌∙◌, arith}
use Rattle.std.proofs.Common.{Bool, true, false, ltb, List, [], ◌∷◌, ◌++◌, length, length-append, ⊎_elim}
use Rattle.std.proofs.Math.Nat.{eq-or-lt_of_le, le_of_suc-le-suc}
use Rattle.std.proofs.lemmas.Bool.Decides.{nat_tests}
use Rattle.std.specs.Prelude.{Option, Some, None}
use Rattle.std.specs.Option.{option_or}
use Rattle.fields.specs.Pick.{pick}
use Rattle.table.specs.Layout.{row_size}
use Rattle.table.specs.Check.{number_end}
use Rattle.table.specs.Held.{Held}
use Rattle.extract.specs.Fixup.{Verdict, sound}
use Rattle.extract.specs.Records.{verdict_at, number_at, row_by, rows_below}
use Rattle.extract.specs.Extracted.{late_in}
use Rattle.extract.specs.declared.Extract.{Extract}

choice : (t : Bool) (o p : Option ℕ) (at : ℕ) → pick t (option_or o p) (Some at) ≡ option_or (pick t o (Some at)) p
choice true o p at = refl
choice false o p at = refl

-- the first row whose number is too large, of rows behind others
pub late_append : (at : ℕ) (xs ys : List Held)
    → late_in at (xs ++ ys) ≡ option_or (late_in at xs) (late_in (at + row_size * length xs) ys)
unfolding late_in
late_append at [] ys =
    let e : at ≡ at + row_size * 0 = omega arith in
    ap (λ (n : ℕ). late_in n ys) e
late_append at (r ∷ rs) ys =
    let e : at + row_size + row_size * length rs ≡ at + row_size * length (r ∷ rs) = omega arith in
    let i = late_append (at + row_size) rs ys
    ∙ ap (λ (n : ℕ). option_or (late_in (at + row_size) rs) (late_in n ys)) e in
    ap (λ (o : Option ℕ). pick (ltb r.number.0 number_end) o (Some at)) i
    ∙ choice (ltb r.number.0 number_end) (late_in (at + row_size) rs) (late_in (at + row_size * length (r ∷ rs)) ys) at

pub both : (o p : Option ℕ) → option_or o p ≡ None → (o ≡ None) × (p ≡ None)
both None p e = (refl, e)
both (Some a) p e = cc

-- where no row has too large a number, none of either part has
pub none_late : (at : ℕ) (xs ys : List Held) → late_in at (xs ++ ys) ≡ None
    → (late_in at xs ≡ None) × (late_in (at + row_size * length xs) ys ≡ None)
none_late at xs ys e = both _ _ (sym (late_append at xs ys) ∙ e)

pub row_fits : (at : ℕ) (r : Held) (rs : List Held) → late_in at (r ∷ rs) ≡ None → r.number.0 < number_end
unfolding late_in
row_fits at r rs e = grind (arith, nat_tests)

module _ (x : Extract) where
  -- where no row is late, the number of each record that is written is small enough
  pub number_fits : (at n p : ℕ) (b : List ℕ) → p < n → verdict_at x p ≡ sound b → late_in at (rows_below x n) ≡ None
      → (number_at x p).0 < number_end
  unfolding rows_below
  number_fits at zero p b l v e = absurd (omega arith)
  number_fits at (suc m) p b l v e =
      let f = none_late at (rows_below x m) (row_by x m (verdict_at x m)) e in
      ⊎_elim
      (λ q.
      let w : verdict_at x m ≡ sound b = subst (λ (k : ℕ). verdict_at x k ≡ sound b) q v in
      let at' = at + row_size * length (rows_below x m) in
      let g : late_in at' (row_by x m (sound b)) ≡ None =
      subst (λ (u : Verdict). late_in at' (row_by x m u) ≡ None) w f.1 in
      subst (λ (k : ℕ). (number_at x k).0 < number_end) (sym q) (row_fits at' _ [] g))
      (λ k. number_fits at m p b k v f.0)
      (eq-or-lt_of_le (le_of_suc-le-suc l))

  -- further records take no row away
  pub rows_more : (n p : ℕ) → p ≤ n → length (rows_below x p) ≤ length (rows_below x n)
  unfolding rows_below
  rows_more zero p l = let q : p ≡ 0 = omega arith in omega (arith, ap (λ (k : ℕ). length (rows_below x k)) q)
  rows_more (suc m) p l =
      let a = length-append (rows_below x m) (row_by x m (verdict_at x m)) in
      ⊎_elim
      (λ q. omega (arith, ap (λ (k : ℕ). length (rows_below x k)) q))
      (λ k. omega (arith, rows_more m p (le_of_suc-le-suc k)))
      (eq-or-lt_of_le l)
