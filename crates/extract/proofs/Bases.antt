-- Which row is the base row: behind one more row, and of a table that holds them.
use Rattle.std.proofs.Common.{ℕ, suc, ◌+◌, ◌≤◌, ◌≡◌, refl, sym, ap, ◌∙◌, arith}
use Rattle.std.proofs.Common.{Bool, true, false, eqb, List, [], ◌∷◌, ◌++◌, length}
use Rattle.std.proofs.lemmas.Bool.{eqb-true}
use Rattle.std.proofs.lemmas.List.{length_push}
use Rattle.std.proofs.lemmas.Bool.Decides.{nat_tests}
use Rattle.std.specs.Prelude.{Option, Some, None, option_map}
use Rattle.fields.specs.Pick.{pick}
use Rattle.fields.specs.declared.RecordNumber.{RecordNumber}
use Rattle.fields.proofs.Cases.{both as holds_of}
use Rattle.table.specs.Held.{Held, held_at, held_from, record_in, record_of, base_row, base_of, held_of}
use Rattle.table.specs.Layout.{numbers_at}
use Rattle.table.specs.declared.check.TableHeader.{TableHeader}
use Rattle.extract.specs.Base.{row_of, base_in}
use Rattle.extract.specs.Told.{has_number}
use Rattle.extract.specs.Laws.{held_as, base_by}

-- a base row is a row, or there is none
pub base_few : (o : Option RecordNumber) (rows : List Held) → base_in o rows ≤ length rows
unfolding row_of
base_few None rows = omega arith
base_few (Some n) [] = omega arith
base_few (Some n) (r ∷ rs) =
    holds_of (λ (k : ℕ). k ≤ suc (length rs)) (eqb r.number.0 n.0) 0 (suc (row_of n rs))
    (omega arith) (omega (arith, base_few (Some n) rs))

-- a row in front that has the number, or has it not
behind_found : (t : Bool) (a b k : ℕ) (P : Type 0) → (pick t 0 (suc a) ≡ suc k → P) → ((a ≡ k → P) → b ≡ a)
    → pick t 0 (suc b) ≡ pick t 0 (suc a)
behind_found true a b k P h g = refl
behind_found false a b k P h g = ap suc (g (λ q. h (ap suc q)))

behind_none : (t : Bool) (a b k : ℕ) → pick t 0 (suc a) ≡ suc k → (a ≡ k → b ≡ a + 1)
    → pick t 0 (suc b) ≡ pick t 0 (suc a) + 1
behind_none true a b k e g = absurd (omega (arith, e))
behind_none false a b k e g = let q : a ≡ k = omega (arith, e) in omega (arith, g q)

-- one more row changes nothing where the base row is in front of it, or is that row
pub base_stays : (o : Option RecordNumber) (rows : List Held) (r : Held)
    → (base_in o rows ≡ length rows → has_number o r.number ≡ true)
    → base_in o (rows ++ (r ∷ [])) ≡ base_in o rows
unfolding row_of
base_stays None rows r h = absurd (let e : false ≡ true = h refl in cc)
base_stays (Some n) [] r h = ap (λ (t : Bool). pick t 0 1) (h refl)
base_stays (Some n) (s ∷ ss) r h =
    behind_found (eqb s.number.0 n.0) (row_of n ss) (row_of n (ss ++ (r ∷ []))) (length ss)
    (has_number (Some n) r.number ≡ true) h (base_stays (Some n) ss r)

-- else it is looked for further on
pub base_goes : (o : Option RecordNumber) (rows : List Held) (r : Held) → base_in o rows ≡ length rows
    → has_number o r.number ≡ false → base_in o (rows ++ (r ∷ [])) ≡ base_in o rows + 1
unfolding row_of
base_goes None rows r e f = length_push rows r
base_goes (Some n) [] r e f = ap (λ (t : Bool). pick t 0 1) f
base_goes (Some n) (s ∷ ss) r e f =
    behind_none (eqb s.number.0 n.0) (row_of n ss) (row_of n (ss ++ (r ∷ []))) (length ss) e
    (λ q. base_goes (Some n) ss r q f)

next_row : (a k : ℕ) → eqb (suc a) (suc k) ≡ eqb a k
next_row a k = grind (arith, nat_tests)

-- the row of a number holds the record that the number finds
module _ (t : List ℕ) (h : TableHeader) (n : RecordNumber) where
  abbrev told : ℕ → ℕ → ℕ → Option Held
  told row k at = option_map (held_at t h) (pick (eqb row k) None (Some at))

  none_equal : (k : ℕ) (o : Option ℕ)
      → option_map (held_at t h) (pick (eqb 0 (suc k)) None o) ≡ option_map (held_at t h) o
  none_equal k o = let e : eqb 0 (suc k) ≡ false = grind (arith, nat_tests) in rw e refl

  one_told : (r : Held) (i k a : ℕ) (o : Option (List ℕ)) (is : Bool) → eqb r.number.0 n.0 ≡ is → held_at t h i ≡ r
      → told a k (i + 1 + a) ≡ held_as n o
      → told (pick is 0 (suc a)) (suc k) (i + pick is 0 (suc a)) ≡ held_as n (pick is (Some r.bytes) o)
  one_told r i k a o true e f g =
      let q : r.number.0 ≡ n.0 = eqb-true _ _ e in
      let z : i + 0 ≡ i = omega arith in
      let m : record { number = n; bytes = r.bytes } ≡ r =
      ap (λ (j : ℕ). record { number = record { 0 = j }; bytes = r.bytes }) (sym q) in
      ap (told 0 (suc k)) z ∙ none_equal k (Some i) ∙ ap Some (f ∙ sym m)
  one_told r i k a o false e f g =
      let z : i + suc a ≡ i + 1 + a = omega arith in
      ap (told (suc a) (suc k)) z
      ∙ ap (λ (b : Bool). option_map (held_at t h) (pick b None (Some (i + 1 + a)))) (next_row a k) ∙ g

  row_told : (rows : List Held) (i : ℕ) → held_from t h (length rows) i ≡ rows
      → told (row_of n rows) (length rows) (i + row_of n rows) ≡ held_as n (record_in rows n)
  unfolding row_of held_from record_in
  row_told [] i e = refl
  row_told (r ∷ rs) i e =
      let f : held_at t h i ≡ r = cc in
      let g : held_from t h (length rs) (i + 1) ≡ rs = cc in
      one_told r i (length rs) (row_of n rs) (record_in rs n) (eqb r.number.0 n.0) refl f (row_told rs (i + 1) g)

-- a table that holds these rows, and tells their base row
pub base_told : (o : Option RecordNumber) (t : List ℕ) (rows : List Held) → held_of t ≡ rows
    → (numbers_at t).count ≡ length rows → (numbers_at t).base ≡ base_in o rows → base_of t ≡ base_by o t
unfolding base_of base_row held_of record_of
base_told None t rows e k b = grind (arith, nat_tests)
base_told (Some n) t rows e k b =
    let h = numbers_at t in
    let f : held_from t h (length rows) 0 ≡ rows = ap (λ (j : ℕ). held_from t h j 0) (sym k) ∙ e in
    let z : row_of n rows ≡ 0 + row_of n rows = omega arith in
    ap (λ (j : ℕ). told t h n j h.count j) b
    ∙ ap (λ (j : ℕ). told t h n (row_of n rows) j (row_of n rows)) k
    ∙ ap (told t h n (row_of n rows) (length rows)) z
    ∙ row_told t h n rows 0 f
    ∙ ap (λ (rs : List Held). held_as n (record_in rs n)) (sym e)
