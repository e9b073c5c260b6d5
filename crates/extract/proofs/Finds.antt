-- Which of an extract's rows a record number finds.
use Rattle.std.proofs.Common.{ℕ, zero, suc, ◌<◌, ◌≤◌, ◌≡◌, refl, sym, subst, ◌∙◌, arith, ⊎_elim}
use Rattle.std.proofs.Common.{List, [], ◌∷◌, ◌++◌, All}
use Rattle.std.proofs.Math.Nat.{eq-or-lt_of_le, le_of_suc-le-suc}
use Rattle.std.proofs.lemmas.List.Elements.{All-head, All-tail, All-weaker}
use Rattle.std.specs.Prelude.{Some, None}
use Rattle.fields.specs.declared.RecordNumber.{RecordNumber}
use Rattle.fields.proofs.Cases.{eq-y, eq-n}
use Rattle.table.specs.Held.{Held, record_in}
use Rattle.extract.specs.Fixup.{Verdict, left_out, refused, sound}
use Rattle.extract.specs.Records.{record_count, verdict_at, number_at, row_by, rows_below}
use Rattle.extract.specs.Laws.{found_by}
use Rattle.extract.specs.declared.Extract.{Extract}
use Rattle.extract.proofs.Risen.{numbers_rise}
use Rattle.extract.proofs.Fits.{NumberedAt, NumberedBelow, row_numbered, rows_numbered}

module _ (n : RecordNumber) where
  abbrev Other : Held → Type 0
  Other r = r.number.0 ≡ n.0 → ⊥

  -- behind rows of other numbers
  found_behind : (xs ys : List Held) → All Other xs → record_in (xs ++ ys) n ≡ record_in ys n
  unfolding record_in
  found_behind [] ys a = refl
  found_behind (r ∷ rs) ys a =
      sym (eq-n r.number.0 n.0 (Some r.bytes) _ (All-head Other r rs a)
      (sym (found_behind rs ys (All-tail Other r rs a))))

  none_found : (xs : List Held) → All Other xs → record_in xs n ≡ None
  unfolding record_in
  none_found [] a = refl
  none_found (r ∷ rs) a =
      sym (eq-n r.number.0 n.0 (Some r.bytes) _ (All-head Other r rs a) (sym (none_found rs (All-tail Other r rs a))))

  -- in front of rows of other numbers
  found_before : (xs ys : List Held) → All Other ys → record_in (xs ++ ys) n ≡ record_in xs n
  unfolding record_in
  found_before [] ys a = none_found ys a
  found_before (r ∷ rs) ys a = rw (found_before rs ys a) refl

module _ (x : Extract) where
  -- a number that no record in front of a position has
  abbrev pub Absent : ℕ → RecordNumber → Type 0
  Absent m n = (i : ℕ) → i < m → (number_at x i).0 ≡ n.0 → ⊥

  none_below : (m : ℕ) (n : RecordNumber) → Absent m n → All (Other n) (rows_below x m)
  none_below m n o =
      All-weaker (NumberedBelow x m) (Other n) (λ r h e. o h.0 h.1 (sym h.2 ∙ e)) (rows_below x m)
      (rows_numbered x m)

  absent_below : (m : ℕ) → m < record_count x → Absent m (number_at x m)
  absent_below m l i k e = omega (arith, numbers_rise x i m k l, e)

  none_at : (i m : ℕ) (v : Verdict) → i < m → m < record_count x → All (Other (number_at x i)) (row_by x m v)
  none_at i m v l k =
      All-weaker (NumberedAt x m) (Other (number_at x i)) (λ r h e. omega (arith, numbers_rise x i m l k, h, e))
      (row_by x m v) (row_numbered x m v)

  row_found : (i : ℕ) (v : Verdict) → record_in (row_by x i v) (number_at x i) ≡ found_by v
  unfolding record_in
  row_found i left_out = refl
  row_found i (refused c) = refl
  row_found i (sound b) = sym (eq-y (number_at x i).0 (number_at x i).0 (Some b) _ refl refl)

  -- a record's number finds its own row
  pub found_below : (n i : ℕ) → i < n → n ≤ record_count x
      → record_in (rows_below x n) (number_at x i) ≡ found_by (verdict_at x i)
  unfolding rows_below
  found_below zero i l o = absurd (omega arith)
  found_below (suc m) i l o =
      let v = verdict_at x m in
      ⊎_elim
      (λ q. subst (λ (k : ℕ). record_in (rows_below x m ++ row_by x m v) (number_at x k) ≡ found_by (verdict_at x k))
      (sym q)
      (found_behind (number_at x m) (rows_below x m) (row_by x m v) (none_below m (number_at x m) (absent_below m o))
      ∙ row_found m v))
      (λ k. found_before (number_at x i) (rows_below x m) (row_by x m v) (none_at i m v k o)
      ∙ found_below m i k (omega arith))
      (eq-or-lt_of_le (le_of_suc-le-suc l))

  -- and a number that no record has finds none
  pub other_below : (m : ℕ) (n : RecordNumber) → Absent m n → record_in (rows_below x m) n ≡ None
  other_below m n o = none_found n (rows_below x m) (none_below m n o)
