-- Rows that stand in a list of bytes pass the check, one after another.
use Rattle.std.proofs.Common.{ℕ, suc, ◌+◌, ◌*◌, ◌<◌, ◌≤◌, ◌≡◌, ap, ◌∙◌, arith, subst}
use Rattle.std.proofs.Common.{List, [], ◌∷◌, length, true, add-zero}
use Rattle.std.proofs.lemmas.Bool.Decides.{nat_tests}
use Rattle.fields.specs.Answer.{gives}
use Rattle.table.specs.Layout.{row_size}
use Rattle.table.specs.Check.{number_end, rows_checked}
use Rattle.table.specs.Loop.{least_at, good_from}
use Rattle.table.specs.Held.{Held}
use Rattle.table.specs.declared.check.TableHeader.{TableHeader}
use Rattle.table.specs.declared.check.Row.{Row}
use Rattle.table.proofs.Rows.{GoodAt, one_more, next_least}
use Rattle.written.specs.Laws.{Rising}
use Rattle.written.proofs.Rest.{Rest, others}
use Rattle.written.proofs.Holds.{row_there}

good_row : (m : ℕ) (h : TableHeader) (least : ℕ) (x : Row) → x.number.0 < number_end → least ≤ x.number.0
    → h.records ≤ x.offset → x.offset + h.size ≤ m → good_from m h least x ≡ true
unfolding good_from
good_row m h least x a b c d = grind (arith, nat_tests)

module _ (t : List ℕ) (h : TableHeader) where
  -- the first of the rows is good, where its number is not below what the row before asks
  first_good : (i d o : ℕ) (r : Held) (rs : List Held) → Rest t h.size d o (r ∷ rs)
      → d ≡ h.directory + row_size * i → h.records ≤ o → r.number.0 < number_end
      → least_at t h i ≤ r.number.0 → GoodAt t h i
  first_good i d o r rs s e f l m =
      let q = row_there t h i d o r rs s e l in
      let inside = s.inside in
      ap (good_from (length t) h (least_at t h i)) q
      ∙ good_row (length t) h (least_at t h i) (record { place = d; number = r.number; offset = o })
      l m f (omega arith)

  next_above : (i d o : ℕ) (r : Held) (rs : List Held) → Rest t h.size d o (r ∷ rs)
      → d ≡ h.directory + row_size * i → r.number.0 < number_end → least_at t h (i + 1) ≡ suc r.number.0
  next_above i d o r rs s e l =
      let q = row_there t h i d o r rs s e l in
      let n = next_least t h i in
      let k = ap (λ (x : Row). x.number.0) q in
      omega arith

  -- the rows pass, where those before them do
  pub rows_pass : (i d o least : ℕ) (rows : List Held) → Rest t h.size d o rows → d ≡ h.directory + row_size * i
      → h.records ≤ o → Rising least rows → least_at t h i ≡ least → rows_checked t h i ≡ gives tt
      → rows_checked t h (i + length rows) ≡ gives tt
  rows_pass i d o least [] s e f up m c = rw (add-zero i) c
  rows_pass i d o least (r ∷ rs) s e f up m c =
      let g = first_good i d o r rs s e f up.1 (omega arith) in
      let n = next_above i d o r rs s e up.1 in
      let k : i + 1 + length rs ≡ i + length (r ∷ rs) = omega arith in
      subst (λ (x : ℕ). rows_checked t h x ≡ gives tt) k
      (rows_pass (i + 1) (d + 12) (o + h.size) (suc r.number.0) rs (others t h.size d o r rs s) (omega arith)
      (omega arith) up.2 n (one_more t h i c g))
