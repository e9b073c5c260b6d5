-- Numbers that rise: what the check of a list finds, and that each is above all those before it.
use Rattle.std.proofs.Common.{ℕ, zero, suc, ◌+◌, ◌*◌, ◌-◌, ◌<◌, ◌≤◌, ◌≡◌, refl, sym, ap, subst, ◌∙◌, arith, add-one}
use Rattle.std.proofs.Common.{Bool, true, false, ltb, eqb, ◌&&◌, List, length, ⊎_elim}
use Rattle.std.proofs.Math.Nat.{eq-or-lt_of_le, le_of_suc-le-suc}
use Rattle.std.proofs.lemmas.Bool.{and_parts, and_from, eq-eqb}
use Rattle.std.proofs.lemmas.Bool.Decides.{nat_tests}
use Rattle.std.specs.Prelude.{Option, Some, None, is_none}
use Rattle.std.specs.Option.{option_or}
use Rattle.fields.specs.Pick.{pick}
use Rattle.fields.specs.Answer.{gives}
use Rattle.fields.proofs.Answers.{refused-given}
use Rattle.fields.specs.declared.RecordNumber.{RecordNumber}
use Rattle.table.specs.Layout.{header_size, row_size}
use Rattle.extract.specs.Numbers.{listed_at, numbered, rises, fallen_below, suits}
use Rattle.extract.specs.Numbers.{refused_fallen, numbers_risen}
use Rattle.extract.specs.Laws.{NumbersRise, RisesTo, RisingIsAccepted, FallenIsTold}
use Rattle.extract.specs.Records.{record_count}
use Rattle.extract.specs.declared.numbers.Numbers.{Numbers}
use Rattle.extract.specs.declared.numbers.Numbers.TheVariants as numbers
use Rattle.extract.proofs.Rows.{both}

chosen_none : (t : Bool) (p : ℕ) → pick t None (Some p) ≡ None → t ≡ true
chosen_none true p e = refl
chosen_none false p e = cc

module _ (ns : List RecordNumber) where
  pub none_first : fallen_below ns 1 ≡ None
  unfolding fallen_below rises
  none_first = refl

  rises_by : (i : ℕ) → 1 ≤ i → rises ns i ≡ ltb (listed_at ns (i - 1)).0 (listed_at ns i).0
  unfolding rises
  rises_by zero l = absurd (omega arith)
  rises_by (suc i) l =
      let e : i ≡ suc i - 1 = omega arith in
      ap (λ (k : ℕ). ltb (listed_at ns k).0 (listed_at ns (suc i)).0) e

  -- one more number that is above the one before
  pub one_rises : (i : ℕ) → 1 ≤ i → fallen_below ns i ≡ None → (listed_at ns (i - 1)).0 < (listed_at ns i).0
      → fallen_below ns (i + 1) ≡ None
  unfolding fallen_below
  one_rises i l h m =
      let r : rises ns i ≡ true = rises_by i l ∙ grind (arith, nat_tests) in
      ap (fallen_below ns) (add-one i)
      ∙ ap (λ (o : Option ℕ). option_or o (pick (rises ns i) None (Some (header_size + row_size * i)))) h
      ∙ ap (λ (t : Bool). pick t None (Some (header_size + row_size * i))) r

  stays_fallen : (i n p : ℕ) → fallen_below ns i ≡ Some p → i ≤ n → fallen_below ns n ≡ Some p
  unfolding fallen_below
  stays_fallen i zero p e l = let q : 0 ≡ i = omega arith in ap (fallen_below ns) q ∙ e
  stays_fallen i (suc n) p e l =
      ⊎_elim
      (λ q. ap (fallen_below ns) (sym q) ∙ e)
      (λ m. ap (λ (o : Option ℕ). option_or o (pick (rises ns n) None (Some (header_size + row_size * n))))
      (stays_fallen i n p e (le_of_suc-le-suc m)))
      (eq-or-lt_of_le l)

  -- the first that is not
  pub one_falls : (i n : ℕ) → 1 ≤ i → fallen_below ns i ≡ None → (listed_at ns i).0 ≤ (listed_at ns (i - 1)).0
      → i < n → fallen_below ns n ≡ Some (header_size + row_size * i)
  unfolding fallen_below
  one_falls i n l h m k =
      let r : rises ns i ≡ false = rises_by i l ∙ grind (arith, nat_tests) in
      let at = header_size + row_size * i in
      stays_fallen (suc i) n at
      (ap (λ (o : Option ℕ). option_or o (pick (rises ns i) None (Some at))) h
      ∙ ap (λ (t : Bool). pick t None (Some at)) r)
      k

  -- where none falls below a position, none falls below an earlier one
  pub none_before : (n i : ℕ) → fallen_below ns n ≡ None → i ≤ n → fallen_below ns i ≡ None
  unfolding fallen_below
  none_before zero i e l = let q : i ≡ 0 = omega arith in ap (fallen_below ns) q
  none_before (suc n) i e l =
      ⊎_elim
      (λ q. ap (fallen_below ns) q ∙ e)
      (λ m. none_before n i (both _ _ e).0 (le_of_suc-le-suc m))
      (eq-or-lt_of_le l)

  last_rises : (i : ℕ) → fallen_below ns (suc i) ≡ None → rises ns i ≡ true
  unfolding fallen_below
  last_rises i e =
      let p = pick (rises ns i) None (Some (header_size + row_size * i)) in
      chosen_none (rises ns i) (header_size + row_size * i) (both (fallen_below ns i) p e).1

  one_above : (i : ℕ) → fallen_below ns (suc (suc i)) ≡ None → (listed_at ns i).0 < (listed_at ns (suc i)).0
  unfolding rises
  one_above i e = let r = last_rises (suc i) e in grind (arith, nat_tests)

  above : (n i j : ℕ) → fallen_below ns n ≡ None → i < j → j < n → (listed_at ns i).0 < (listed_at ns j).0
  above n i zero e l m = absurd (omega arith)
  above n i (suc j) e l m =
      let s = one_above j (none_before n (suc (suc j)) e m) in
      ⊎_elim
      (λ q. subst (λ (k : ℕ). (listed_at ns k).0 < (listed_at ns (suc j)).0) (sym q) s)
      (λ k. let a = above n i j e k (omega arith) in omega arith)
      (eq-or-lt_of_le (le_of_suc-le-suc l))

  -- numbers that rise, each above the one before
  none_up_to : (k : ℕ) → RisesTo ns k → fallen_below ns k ≡ None
  unfolding fallen_below
  none_up_to zero h = refl
  none_up_to (suc zero) h = none_first
  none_up_to (suc (suc i)) h =
      let e : suc i - 1 ≡ i = omega arith in
      let a : (listed_at ns i).0 < (listed_at ns (suc i)).0 = simp add-one at (h i (omega arith)) in
      let b = one_rises (suc i) (omega arith) (none_up_to (suc i) (λ j l. h j (omega arith)))
      (subst (λ (k : ℕ). (listed_at ns k).0 < (listed_at ns (suc i)).0) (sym e) a) in
      ap (fallen_below ns) (sym (add-one (suc i))) ∙ b

pub rising_is_accepted : RisingIsAccepted
unfolding numbers_risen
rising_is_accepted ns h = ap refused_fallen (none_up_to ns (length ns) h)

pub fallen_is_told : FallenIsTold
unfolding numbers_risen
fallen_is_told ns i h l m =
    let e : i ≡ i + 1 - 1 = omega arith in
    ap refused_fallen (one_falls ns (i + 1) (length ns) (omega arith) (none_up_to ns (i + 1) h)
    (subst (λ (k : ℕ). (listed_at ns (i + 1)).0 ≤ (listed_at ns k).0) e m) l)

none_fallen : (o : Option ℕ) → is_none o ≡ true → o ≡ None
none_fallen None e = refl
none_fallen (Some p) e = cc

none_refused : (o : Option ℕ) → gives tt ≡ refused_fallen o → is_none o ≡ true
none_refused None e = refl
none_refused (Some p) e = absurd (refused-given (sym e))

-- a list that passes its check, with a number for each record
pub list_suits : (ns : List RecordNumber) (k : ℕ) → k ≡ length ns → gives tt ≡ numbers_risen ns
    → (eqb (length ns) k && is_none (fallen_below ns k)) ≡ true
unfolding numbers_risen
list_suits ns k e r =
    and_from _ _ (eq-eqb _ _ (sym e))
    (ap (λ (n : ℕ). is_none (fallen_below ns n)) e ∙ none_refused (fallen_below ns (length ns)) r)

rise_by : (ns : Numbers) (k i j : ℕ) → suits ns k ≡ true → i < j → j < k → (numbered ns i).0 < (numbered ns j).0
rise_by (numbers.From n) k i j s l m = omega arith
rise_by (numbers.Listed ns) k i j s l m = above ns.now k i j (none_fallen _ (and_parts _ _ s).1) l m

-- the numbers of an extract's records rise
pub numbers_rise : NumbersRise
numbers_rise x i j l m = rise_by x.numbers (record_count x) i j x.numbered l m
