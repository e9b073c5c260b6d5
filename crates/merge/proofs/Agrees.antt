-- What a clash says of each number of two lists.
use Rattle.std.proofs.Common.{ℕ, suc, ◌<◌, ◌≤◌, ◌≡◌, List, [], ◌∷◌, refl, sym, ap, ◌∙◌, subst, arith}
use Rattle.std.proofs.lemmas.Slice.Eq.{bytes_eq-Decides}
use Rattle.std.proofs.lemmas.Bool.{eqb-true, eqb-false, not-false, not-true}
use Rattle.std.specs.Prelude.{Bool, true, false, Option, Some, None, bytes_eq, eqb}
use Rattle.fields.proofs.Cases.{not-true as contrary}
use Rattle.fields.specs.Pick.{pick}
use Rattle.fields.specs.declared.RecordNumber.{RecordNumber}
use Rattle.table.specs.Held.{Held, record_in}
use Rattle.written.specs.Laws.{Rising}
use Rattle.merge.specs.Rows.{differs, clash}
use Rattle.merge.specs.Laws.{Agree}
use Rattle.merge.proofs.Rows.{record_none, record_skip, record_first}

-- a record that does not differ is the same, and one that does is another
same_bytes : (o : Option (List ℕ)) (a b : List ℕ) → differs o b ≡ false → o ≡ Some a → a ≡ b
same_bytes None a b d e = cc
same_bytes (Some c) a b d e =
    let f : c ≡ a = cc in sym f ∙ (bytes_eq-Decides c b).0 (not-false (bytes_eq c b) d)

other_bytes : (o : Option (List ℕ)) (b : List ℕ) → differs o b ≡ true
    → ((a c : List ℕ) → o ≡ Some a → Some b ≡ Some c → a ≡ c) → ⊥
other_bytes None b d same = contrary d
other_bytes (Some c) b d same =
    contrary (sym (not-true (bytes_eq c b) d) ∙ (bytes_eq-Decides c b).1 (same c b refl refl))

module _ (xs : List Held) (y : Held) (ys : List Held) where
  -- under the first row's number, and under another
  agree_first : (n : RecordNumber) → y.number.0 ≡ n.0 → differs (record_in xs y.number) y.bytes ≡ false
      → Agree xs (y ∷ ys) n
  agree_first n e d a b p q =
      let m : y.number ≡ n = ap (λ (k : ℕ). record { 0 = k }) e in
      let f : Some y.bytes ≡ Some b = sym (record_first y ys n e) ∙ q in
      let g : y.bytes ≡ b = cc in
      same_bytes (record_in xs y.number) a y.bytes d (ap (record_in xs) m ∙ p) ∙ g

  agree_behind : (n : RecordNumber) → (y.number.0 ≡ n.0 → ⊥) → Agree xs ys n → Agree xs (y ∷ ys) n
  agree_behind n d g a b p q = g a b p (sym (record_skip y ys n d) ∙ q)

  agree_back : (n : RecordNumber) → (y.number.0 ≡ n.0 → ⊥) → Agree xs (y ∷ ys) n → Agree xs ys n
  agree_back n d g a b p q = g a b p (record_skip y ys n d ∙ q)

  agree_by : (n : RecordNumber) → differs (record_in xs y.number) y.bytes ≡ false → Agree xs ys n → (t : Bool)
      → eqb y.number.0 n.0 ≡ t → Agree xs (y ∷ ys) n
  agree_by n d g true e = agree_first n (eqb-true y.number.0 n.0 e) d
  agree_by n d g false e = agree_behind n (eqb-false y.number.0 n.0 e) g

  -- two records that differ under the first row's number
  differ_first : differs (record_in xs y.number) y.bytes ≡ true → Agree xs (y ∷ ys) y.number → ⊥
  differ_first d g =
      other_bytes (record_in xs y.number) y.bytes d
      (λ a c p q. g a c p (record_first y ys y.number refl ∙ q))

-- nothing is told of a number below all of a list
agree_below : (xs ys : List Held) (m : RecordNumber) → Rising (suc m.0) ys → Agree xs ys m
agree_below xs ys m up a b p q = let e = record_none m ys up in cc

module _ (xs : List Held) (y : Held) (ys : List Held) (n : RecordNumber) where
  abbrev Lowest : List Held → Type 0
  Lowest zs = (Agree xs zs n → ⊥) × ((m : RecordNumber) → m.0 < n.0 → Agree xs zs m)

  agreed_by : (clash xs ys ≡ None → Agree xs ys n) → (t : Bool) → differs (record_in xs y.number) y.bytes ≡ t
      → pick t (Some y.number) (clash xs ys) ≡ None → Agree xs (y ∷ ys) n
  agreed_by more true d e = cc
  agreed_by more false d e = agree_by xs y ys n d (more e) (eqb y.number.0 n.0) refl

  above_by : (least : ℕ) → Rising least (y ∷ ys) → (clash xs ys ≡ Some n → suc y.number.0 ≤ n.0) → (t : Bool)
      → pick t (Some y.number) (clash xs ys) ≡ Some n → least ≤ n.0
  above_by least up more true e = let q : y.number ≡ n = cc in subst (λ (k : RecordNumber). least ≤ k.0) q up.0
  above_by least up more false e = let m = more e in omega (arith, up.0)

  lowest_by : (least : ℕ) → Rising least (y ∷ ys) → (clash xs ys ≡ Some n → suc y.number.0 ≤ n.0)
      → (clash xs ys ≡ Some n → Lowest ys) → (t : Bool) → differs (record_in xs y.number) y.bytes ≡ t
      → pick t (Some y.number) (clash xs ys) ≡ Some n → Lowest (y ∷ ys)
  lowest_by least up above more true d e =
      let q : y.number ≡ n = cc in (
        (λ g. differ_first xs y ys d (subst (Agree xs (y ∷ ys)) (sym q) g)),
        (λ m l. agree_below xs (y ∷ ys) m
            (subst (λ (k : RecordNumber). m.0 < k.0) (sym q) l, up.1, up.2)),
      )
  lowest_by least up above more false d e =
      let r = more e in let b = above e in (
        (λ g. r.0 (agree_back xs y ys n (λ q. omega arith) g)),
        (λ m l. agree_by xs y ys m d (r.1 m l) (eqb y.number.0 m.0) refl),
      )

-- without a clash the two agree under each number
pub agreed : (xs ys : List Held) → clash xs ys ≡ None → (n : RecordNumber) → Agree xs ys n
unfolding clash record_in
agreed xs [] e n = λ a b p q. cc
agreed xs (y ∷ ys) e n =
    agreed_by xs y ys n (λ f. agreed xs ys f n) (differs (record_in xs y.number) y.bytes) refl e

-- a clash is none below a bound that the second list keeps
clash_above : (least : ℕ) (xs ys : List Held) → Rising least ys → (n : RecordNumber) → clash xs ys ≡ Some n
    → least ≤ n.0
unfolding clash
clash_above least xs [] up n e = cc
clash_above least xs (y ∷ ys) up n e =
    above_by xs y ys n least up (clash_above (suc y.number.0) xs ys up.2 n)
    (differs (record_in xs y.number) y.bytes) e

-- it is the lowest number under which the two do not agree
pub lowest : (least : ℕ) (xs ys : List Held) → Rising least ys → (n : RecordNumber) → clash xs ys ≡ Some n
    → (Agree xs ys n → ⊥) × ((m : RecordNumber) → m.0 < n.0 → Agree xs ys m)
unfolding clash
lowest least xs [] up n e = cc
lowest least xs (y ∷ ys) up n e =
    lowest_by xs y ys n least up (clash_above (suc y.number.0) xs ys up.2 n) (lowest (suc y.number.0) xs ys up.2 n)
    (differs (record_in xs y.number) y.bytes) refl e
