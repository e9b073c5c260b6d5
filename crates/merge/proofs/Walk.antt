-- Two directories gone over side by side: which rows come of it, and the first number that has two records.
use Rattle.std.proofs.Common.{ℕ, suc, ◌+◌, ◌<◌, ◌≤◌, ◌≡◌, List, [], ◌∷◌, ◌++◌, map, length}
use Rattle.std.proofs.Common.{refl, ap, ◌∙◌, arith, All, Bor}
use Rattle.std.proofs.lemmas.List.{length-map}
use Rattle.std.proofs.lemmas.List.Elements.{All-nil, All-cons, All-head, All-tail, All-map}
use Rattle.std.specs.Prelude.{⊤, Bool, true, false, Option, Some, None, option_map}
use Rattle.std.specs.Option.{option_or}
use Rattle.std.specs.Ordering.{MatchOrdering, nat_cmp}
use Rattle.std.specs.Cmp.{ranks}
use Rattle.std.specs.declared.cmp.Ordering.{Ordering}
use Rattle.std.specs.declared.cmp.Ordering.TheVariants.{Less, Equal, Greater}
use Rattle.itertools.specs.List.{merge_join_by, by_ordering}
use Rattle.itertools.specs.declared.either_or_both.EitherOrBoth.{EitherOrBoth}
use Rattle.itertools.specs.declared.either_or_both.EitherOrBoth.TheVariants.{Both, Left, Right}
use Rattle.fields.specs.Pick.{pick}
use Rattle.fields.specs.declared.RecordNumber.{RecordNumber}
use Rattle.table.specs.Held.{Held}
use Rattle.table.specs.declared.check.Row.{Row}
use Rattle.written.specs.Laws.{Rising}
use Rattle.merge.specs.Rows.{merged, unlike, clash}
use Rattle.merge.proofs.Rows.{merged_none, merged_all, merged_less, merged_equal, merged_greater}
use Rattle.merge.proofs.Rows.{clash_none, clash_less, clash_equal, clash_greater}

-- a row with its record, as a table hands it out, and a step of the walk
abbrev pub Item : Type 0
Item = Row × Bor (List ℕ)

abbrev pub Step : Type 0
Step = EitherOrBoth Item Item

abbrev pub held : Item → Held
held p = record { number = p.0.number; bytes = p.1.now }

abbrev pub by_numbers : Item → Item → Ordering
by_numbers x y = nat_cmp x.0.number.0 y.0.number.0

abbrev pub steps_of : List Item → List Item → List Step
steps_of = merge_join_by by_numbers

-- the row that a step makes
abbrev pub row_of : Step → Held
row_of (Left x) = held x
row_of (Both x y) = held x
row_of (Right y) = held y

-- the second table's row, where a step has two that differ
abbrev pub differing : Step → Option Item
differing (Left x) = None
differing (Right y) = None
differing (Both x y) = pick (unlike x.1.now y.1.now) (Some y) None

abbrev pub first_differing : List Step → Option Item
first_differing [] = None
first_differing (s ∷ ss) = option_or (differing s) (first_differing ss)

abbrev pub number_of_item : Option Item → Option RecordNumber
number_of_item = option_map (λ y. y.0.number)

or_or : {A : Type 0} (a b c : Option A) → option_or a (option_or b c) ≡ option_or (option_or a b) c
or_or None b c = refl
or_or (Some x) b c = refl

-- of one list alone
rights : (ys : List Item) → map held ys ≡ map row_of (map (λ y. Right y) ys)
rights [] = refl
rights (y ∷ ys) = ap (λ (l : List Held). held y ∷ l) (rights ys)

lefts : (xs : List Item) → map held xs ≡ map row_of (map (λ x. Left x) xs)
lefts [] = refl
lefts (x ∷ xs) = ap (λ (l : List Held). held x ∷ l) (lefts xs)

rights_agree : (ys : List Item) → None ≡ first_differing (map (λ y. Right y) ys)
rights_agree [] = refl
rights_agree (y ∷ ys) = rights_agree ys

lefts_agree : (xs : List Item) → None ≡ first_differing (map (λ x. Left x) xs)
lefts_agree [] = refl
lefts_agree (x ∷ xs) = lefts_agree xs

no_clash : (xs : List Held) → clash xs [] ≡ None
unfolding clash
no_clash xs = refl

same_number : (b : Bool) (y : Item) (o : Option RecordNumber) (p : Option Item) → o ≡ number_of_item p
    → pick b (Some y.0.number) o ≡ number_of_item (option_or (pick b (Some y) None) p)
same_number true y o p e = refl
same_number false y o p e = e

-- of two lists, by their first rows and by what comes behind these
module _ (a b : ℕ) (x y : Item) (xs ys : List Item) (ux : Rising a (held x ∷ map held xs))
    (uy : Rising b (held y ∷ map held ys)) (p q r : List Step) where
  abbrev Ranked : Ordering → Type 0
  Ranked o =
      MatchOrdering o (x.0.number.0 < y.0.number.0) (x.0.number.0 ≡ y.0.number.0) (y.0.number.0 < x.0.number.0)

  rows_by : (o : Ordering) → Ranked o
      → merged (map held xs) (held y ∷ map held ys) ≡ map row_of p
      → merged (map held xs) (map held ys) ≡ map row_of q
      → merged (held x ∷ map held xs) (map held ys) ≡ map row_of r
      → merged (held x ∷ map held xs) (held y ∷ map held ys)
      ≡ map row_of (by_ordering o (Left x ∷ p) (Both x y ∷ q) (Right y ∷ r))
  rows_by Less l e f g = merged_less a b _ _ _ _ ux uy l ∙ ap (λ (t : List Held). held x ∷ t) e
  rows_by Equal l e f g = merged_equal a b _ _ _ _ ux uy l ∙ ap (λ (t : List Held). held x ∷ t) f
  rows_by Greater l e f g = merged_greater a b _ _ _ _ ux uy l ∙ ap (λ (t : List Held). held y ∷ t) g

  clash_by : (o : Ordering) → Ranked o
      → clash (map held xs) (held y ∷ map held ys) ≡ number_of_item (first_differing p)
      → clash (map held xs) (map held ys) ≡ number_of_item (first_differing q)
      → clash (held x ∷ map held xs) (map held ys) ≡ number_of_item (first_differing r)
      → clash (held x ∷ map held xs) (held y ∷ map held ys)
      ≡ number_of_item (first_differing (by_ordering o (Left x ∷ p) (Both x y ∷ q) (Right y ∷ r)))
  clash_by Less l e f g = clash_less a b _ _ _ _ ux uy l ∙ e
  clash_by Equal l e f g =
      clash_equal a b _ _ _ _ ux uy l ∙ same_number (unlike x.1.now y.1.now) y _ _ f
  clash_by Greater l e f g = clash_greater a b _ _ _ _ ux uy l ∙ g

-- the rows that are merged are those of the steps
pub rows_walked : (a b : ℕ) (xs ys : List Item) → Rising a (map held xs) → Rising b (map held ys)
    → merged (map held xs) (map held ys) ≡ map row_of (steps_of xs ys)
rows_walked a b [] ys ux uy = merged_all (map held ys) ∙ rights ys
rows_walked a b (x ∷ xs) [] ux uy = merged_none a (map held (x ∷ xs)) ux ∙ lefts (x ∷ xs)
rows_walked a b (x ∷ xs) (y ∷ ys) ux uy =
    rows_by a b x y xs ys ux uy _ _ _ (by_numbers x y) (ranks x.0.number.0 y.0.number.0)
    (rows_walked (suc x.0.number.0) b xs (y ∷ ys) ux.2 uy)
    (rows_walked (suc x.0.number.0) (suc y.0.number.0) xs ys ux.2 uy.2)
    (rows_walked a (suc y.0.number.0) (x ∷ xs) ys ux uy.2)

-- and the lowest number with two records is that of the first step that has two that differ
pub clash_walked : (a b : ℕ) (xs ys : List Item) → Rising a (map held xs) → Rising b (map held ys)
    → clash (map held xs) (map held ys) ≡ number_of_item (first_differing (steps_of xs ys))
clash_walked a b [] ys ux uy = clash_none (map held ys) ∙ ap number_of_item (rights_agree ys)
clash_walked a b (x ∷ xs) [] ux uy = no_clash (map held (x ∷ xs)) ∙ ap number_of_item (lefts_agree (x ∷ xs))
clash_walked a b (x ∷ xs) (y ∷ ys) ux uy =
    clash_by a b x y xs ys ux uy _ _ _ (by_numbers x y) (ranks x.0.number.0 y.0.number.0)
    (clash_walked (suc x.0.number.0) b xs (y ∷ ys) ux.2 uy)
    (clash_walked (suc x.0.number.0) (suc y.0.number.0) xs ys ux.2 uy.2)
    (clash_walked a (suc y.0.number.0) (x ∷ xs) ys ux uy.2)

-- what holds of each row of two lists holds of each step's rows: of the one that it makes, and of the second's
module _ (P : Item → Type 0) where
  abbrev pub OfSecond : Step → Type 0
  OfSecond (Left x) = ⊤
  OfSecond (Both x y) = P y
  OfSecond (Right y) = P y

  second_by : (o : Ordering) (x y : Item) (p q r : List Step) → P y → All OfSecond p → All OfSecond q → All OfSecond r
      → All OfSecond (by_ordering o (Left x ∷ p) (Both x y ∷ q) (Right y ∷ r))
  second_by Less x y p q r a e f g = All-cons OfSecond (Left x) p tt e
  second_by Equal x y p q r a e f g = All-cons OfSecond (Both x y) q a f
  second_by Greater x y p q r a e f g = All-cons OfSecond (Right y) r a g

  second_rights : (ys : List Item) → All P ys → All OfSecond (map (λ y. Right y) ys)
  second_rights ys a = All-map OfSecond (λ y. Right y) ys a

  second_lefts : (xs : List Item) → All OfSecond (map (λ x. Left x) xs)
  second_lefts [] = All-nil OfSecond
  second_lefts (x ∷ xs) = All-cons OfSecond (Left x) _ tt (second_lefts xs)

  pub second_walked : (xs ys : List Item) → All P ys → All OfSecond (steps_of xs ys)
  second_walked [] ys a = second_rights ys a
  second_walked (x ∷ xs) [] a = second_lefts (x ∷ xs)
  second_walked (x ∷ xs) (y ∷ ys) a =
      second_by (by_numbers x y) x y _ _ _ (All-head P y ys a) (second_walked xs (y ∷ ys) a)
      (second_walked xs ys (All-tail P y ys a)) (second_walked (x ∷ xs) ys (All-tail P y ys a))

-- no more steps than rows
steps_by : (o : Ordering) (x y : Item) (p q r : List Step) (n : ℕ) → length p ≤ n → length q ≤ n → length r ≤ n
    → length (by_ordering o (Left x ∷ p) (Both x y ∷ q) (Right y ∷ r)) ≤ n + 1
steps_by Less x y p q r n e f g = omega arith
steps_by Equal x y p q r n e f g = omega arith
steps_by Greater x y p q r n e f g = omega arith

pub few_steps : (xs ys : List Item) → length (steps_of xs ys) ≤ length xs + length ys
few_steps [] ys =
    let right : Item → Step = λ y. Right y in omega (arith, length-map ys right)
few_steps (x ∷ xs) [] =
    let left : Item → Step = λ z. Left z in omega (arith, length-map xs left)
few_steps (x ∷ xs) (y ∷ ys) =
    let a = few_steps xs (y ∷ ys) in let b = few_steps xs ys in let c = few_steps (x ∷ xs) ys in
    let d = steps_by (by_numbers x y) x y (steps_of xs (y ∷ ys)) (steps_of xs ys) (steps_of (x ∷ xs) ys)
    (length xs + length ys + 1) (omega arith) (omega arith) (omega arith) in
    omega arith

-- the first two records that differ, in front or behind
pub differing_append : (ss ts : List Step)
    → first_differing (ss ++ ts) ≡ option_or (first_differing ss) (first_differing ts)
differing_append [] ts = refl
differing_append (s ∷ ss) ts =
    ap (option_or (differing s)) (differing_append ss ts)
    ∙ or_or (differing s) (first_differing ss) (first_differing ts)

-- an element in the middle
pub middle : {A : Type 0} (P : A → Type 0) (xs ys : List A) (x : A) → All P ((xs ++ (x ∷ [])) ++ ys) → P x
middle P [] ys x a = All-head P x ys a
middle P (z ∷ xs) ys x a = middle P xs ys x (All-tail P z _ a)
