-- Lists of rows with rising numbers: what putting a row in its place comes to, what a merge does, and a clash.
use Rattle.std.proofs.Common.{ℕ, suc, ◌<◌, ◌≤◌, ◌≡◌, List, [], ◌∷◌, refl, sym, ap, ◌∙◌, subst, arith, All}
use Rattle.std.proofs.lemmas.List.Elements.{All-nil, All-cons, All-head, All-tail}
use Rattle.std.specs.Prelude.{Option, Some, None, ltb, eqb}
use Rattle.std.specs.Ordering.{MatchOrdering}
use Rattle.std.specs.declared.cmp.Ordering.{Ordering}
use Rattle.std.specs.declared.cmp.Ordering.TheVariants.{Less, Equal, Greater}
use Rattle.std.specs.Ordering.{nat_cmp}
use Rattle.std.specs.Cmp.{ranks}
use Rattle.fields.specs.Pick.{pick}
use Rattle.fields.specs.declared.RecordNumber.{RecordNumber}
use Rattle.fields.proofs.Cases.{lt-y, lt-n, eq-y, eq-n, both}
use Rattle.table.specs.Check.{number_end}
use Rattle.table.specs.Held.{Held, record_in}
use Rattle.written.specs.Laws.{Rising}
use Rattle.merge.specs.Rows.{put, merged, unlike, differs, clash}

pub rising_less : (m n : ℕ) (rs : List Held) → n ≤ m → Rising m rs → Rising n rs
rising_less m n [] l up = tt
rising_less m n (r ∷ rs) l up = (omega (arith, up.0), up.1, up.2)

-- a row that is put in front of a row, in its place, and behind it
pub put_ahead : (r s : Held) (ss : List Held) → r.number.0 < s.number.0 → put r (s ∷ ss) ≡ r ∷ (s ∷ ss)
unfolding put
put_ahead r s ss l = sym (lt-y _ _ _ _ l refl)

pub put_same : (r s : Held) (ss : List Held) → r.number.0 ≡ s.number.0 → put r (s ∷ ss) ≡ r ∷ ss
unfolding put
put_same r s ss e =
    sym (lt-n r.number.0 s.number.0 (r ∷ (s ∷ ss)) _ (omega arith) (eq-y r.number.0 s.number.0 _ _ e refl))

pub put_behind : (r s : Held) (ss : List Held) → s.number.0 < r.number.0 → put r (s ∷ ss) ≡ s ∷ put r ss
unfolding put
put_behind r s ss l =
    let other : r.number.0 ≡ s.number.0 → ⊥ = λ e. omega arith in
    sym (lt-n r.number.0 s.number.0 (r ∷ (s ∷ ss)) _ (omega arith) (eq-n r.number.0 s.number.0 _ _ other refl))

pub put_first : (r : Held) (rs : List Held) → Rising (suc r.number.0) rs → put r rs ≡ r ∷ rs
unfolding put
put_first r [] up = refl
put_first r (s ∷ ss) up = put_ahead r s ss (omega (arith, up.0))

module _ (least : ℕ) (r s : Held) (ss : List Held) (l : least ≤ r.number.0) (m : r.number.0 < number_end)
    (up : Rising least (s ∷ ss)) (more : (b : s.number.0 < r.number.0) → Rising (suc s.number.0) (put r ss)) where
  put_by : (o : Ordering)
      → MatchOrdering o (r.number.0 < s.number.0) (r.number.0 ≡ s.number.0) (s.number.0 < r.number.0)
      → Rising least (put r (s ∷ ss))
  put_by Less b = subst (Rising least) (sym (put_ahead r s ss b)) (l, m, (omega arith, up.1, up.2))
  put_by Equal b =
      subst (Rising least) (sym (put_same r s ss b))
      (l, m, rising_less (suc s.number.0) (suc r.number.0) ss (omega arith) up.2)
  put_by Greater b = subst (Rising least) (sym (put_behind r s ss b)) (up.0, up.1, more b)

-- numbers rise in what a row is put into, and in what is merged
pub put_rises : (least : ℕ) (r : Held) (rs : List Held) → least ≤ r.number.0 → r.number.0 < number_end
    → Rising least rs → Rising least (put r rs)
unfolding put
put_rises least r [] l m up = (l, m, tt)
put_rises least r (s ∷ ss) l m up =
    put_by least r s ss l m up (λ b. put_rises (suc s.number.0) r ss (omega arith) m up.2)
    (nat_cmp r.number.0 s.number.0) (ranks r.number.0 s.number.0)

pub merged_rises : (least : ℕ) (xs ys : List Held) → Rising least xs → Rising least ys → Rising least (merged xs ys)
unfolding merged
merged_rises least [] ys a b = b
merged_rises least (x ∷ xs) ys a b =
    put_rises least x (merged xs ys) a.0 a.1
    (merged_rises least xs ys (rising_less (suc x.number.0) least xs (omega (arith, a.0)) a.2) b)

-- what holds of each row of two lists holds of each that is merged
module _ (P : Held → Type 0) where
  put_all : (r : Held) (rs : List Held) → P r → All P rs → All P (put r rs)
  unfolding put
  put_all r [] p a = All-cons P r [] p (All-nil P)
  put_all r (s ∷ ss) p a =
      let q = All-head P s ss a in let b = All-tail P s ss a in
      both (All P) (ltb r.number.0 s.number.0) (r ∷ (s ∷ ss)) _ (All-cons P r (s ∷ ss) p a)
      (both (All P) (eqb r.number.0 s.number.0) (r ∷ ss) (s ∷ put r ss) (All-cons P r ss p b)
      (All-cons P s (put r ss) q (put_all r ss p b)))

  pub merged_all_of : (xs ys : List Held) → All P xs → All P ys → All P (merged xs ys)
  unfolding merged
  merged_all_of [] ys a b = b
  merged_all_of (x ∷ xs) ys a b =
      put_all x (merged xs ys) (All-head P x xs a) (merged_all_of xs ys (All-tail P x xs a) b)

-- where one list has come to its end
pub merged_none : (least : ℕ) (xs : List Held) → Rising least xs → merged xs [] ≡ xs
unfolding merged
merged_none least [] up = refl
merged_none least (x ∷ xs) up = ap (put x) (merged_none (suc x.number.0) xs up.2) ∙ put_first x xs up.2

pub merged_all : (ys : List Held) → merged [] ys ≡ ys
unfolding merged
merged_all ys = refl

-- the second list's first row, where it is below all of the first list
pub merged_low : (y : Held) (xs ys : List Held) → Rising (suc y.number.0) xs → merged xs (y ∷ ys) ≡ y ∷ merged xs ys
unfolding merged
merged_low y [] ys up = refl
merged_low y (x ∷ xs) ys up =
    ap (put x) (merged_low y xs ys (rising_less (suc x.number.0) (suc y.number.0) xs (omega (arith, up.0)) up.2))
    ∙ put_behind x y (merged xs ys) (omega (arith, up.0))

-- what has no record with a number, and what has one in front
pub record_none : (n : RecordNumber) (rs : List Held) → Rising (suc n.0) rs → record_in rs n ≡ None
unfolding record_in
record_none n [] up = refl
record_none n (r ∷ rs) up =
    let other : r.number.0 ≡ n.0 → ⊥ = λ e. omega (arith, up.0) in
    sym (eq-n r.number.0 n.0 _ _ other
    (sym (record_none n rs (rising_less (suc r.number.0) (suc n.0) rs (omega (arith, up.0)) up.2))))

pub record_skip : (r : Held) (rs : List Held) (n : RecordNumber) → (r.number.0 ≡ n.0 → ⊥)
    → record_in (r ∷ rs) n ≡ record_in rs n
unfolding record_in
record_skip r rs n d = sym (eq-n _ _ _ _ d refl)

pub record_first : (r : Held) (rs : List Held) (n : RecordNumber) → r.number.0 ≡ n.0
    → record_in (r ∷ rs) n ≡ Some r.bytes
unfolding record_in
record_first r rs n e = sym (eq-y _ _ _ _ e refl)

pub clash_none : (ys : List Held) → clash [] ys ≡ None
unfolding clash record_in
clash_none [] = refl
clash_none (y ∷ ys) = clash_none ys

-- a row below all of the second list does not clash
pub clash_skip : (x : Held) (xs ys : List Held) → Rising (suc x.number.0) ys → clash (x ∷ xs) ys ≡ clash xs ys
unfolding clash
clash_skip x xs [] up = refl
clash_skip x xs (y ∷ ys) up =
    ap (λ (o : Option (List ℕ)). pick (differs o y.bytes) (Some y.number) (clash (x ∷ xs) ys))
    (record_skip x xs y.number (λ (e : x.number.0 ≡ y.number.0). omega (arith, up.0)))
    ∙ ap (pick (differs (record_in xs y.number) y.bytes) (Some y.number))
    (clash_skip x xs ys (rising_less (suc y.number.0) (suc x.number.0) ys (omega (arith, up.0)) up.2))

-- what two lists come to by their first rows
module _ (a b : ℕ) (x y : Held) (xs ys : List Held) (ux : Rising a (x ∷ xs)) (uy : Rising b (y ∷ ys)) where
  pub merged_less : x.number.0 < y.number.0 → merged (x ∷ xs) (y ∷ ys) ≡ x ∷ merged xs (y ∷ ys)
  unfolding merged
  merged_less l =
      put_first x (merged xs (y ∷ ys))
      (merged_rises (suc x.number.0) xs (y ∷ ys) ux.2 (omega arith, uy.1, uy.2))

  pub merged_equal : x.number.0 ≡ y.number.0 → merged (x ∷ xs) (y ∷ ys) ≡ x ∷ merged xs ys
  unfolding merged
  merged_equal e =
      ap (put x) (merged_low y xs ys (rising_less (suc x.number.0) (suc y.number.0) xs (omega arith) ux.2))
      ∙ put_same x y (merged xs ys) e

  pub merged_greater : y.number.0 < x.number.0 → merged (x ∷ xs) (y ∷ ys) ≡ y ∷ merged (x ∷ xs) ys
  merged_greater l = merged_low y (x ∷ xs) ys (omega arith, ux.1, ux.2)

  pub clash_less : x.number.0 < y.number.0 → clash (x ∷ xs) (y ∷ ys) ≡ clash xs (y ∷ ys)
  clash_less l = clash_skip x xs (y ∷ ys) (omega arith, uy.1, uy.2)

  pub clash_equal : x.number.0 ≡ y.number.0
      → clash (x ∷ xs) (y ∷ ys) ≡ pick (unlike x.bytes y.bytes) (Some y.number) (clash xs ys)
  unfolding clash
  clash_equal e =
      ap (λ (o : Option (List ℕ)). pick (differs o y.bytes) (Some y.number) (clash (x ∷ xs) ys))
      (record_first x xs y.number e)
      ∙ ap (pick (unlike x.bytes y.bytes) (Some y.number))
      (clash_skip x xs ys (rising_less (suc y.number.0) (suc x.number.0) ys (omega arith) uy.2))

  pub clash_greater : y.number.0 < x.number.0 → clash (x ∷ xs) (y ∷ ys) ≡ clash (x ∷ xs) ys
  unfolding clash
  clash_greater l =
      ap (λ (o : Option (List ℕ)). pick (differs o y.bytes) (Some y.number) (clash (x ∷ xs) ys))
      (record_none y.number (x ∷ xs) (omega arith, ux.1, ux.2))
