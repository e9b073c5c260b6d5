-- The faults that are told apart are the check's: the same tests, in the same order.
use Rattle.std.specs.Prelude.{ℕ, zero, suc, ◌+◌, ◌<◌, ◌≤◌, ◌≡◌, List, Bool, leb, length, Option, Some, None}
use Rattle.std.specs.Option.{option_or}
use Rattle.std.proofs.Common.{arith, refl, subst, ap, ◌∙◌, add-one, ⊎_elim}
use Rattle.std.proofs.Math.Nat.{eq-or-lt_of_le, le_of_suc-le-suc}
use Rattle.std.proofs.lemmas.Bool.Decides.{nat_tests}
use Rattle.fields.specs.Pick.{pick}
use Rattle.fields.specs.Answer.{Outcome, gives, refuses, ◌⟫◌}
use Rattle.table.specs.Layout.{numbers_at, row_at}
use Rattle.table.specs.Check.{malformed, good_numbers, head_of, rises, good_row, row_checked}
use Rattle.table.specs.Check.{rows_checked, rows_of, table_of}
use Rattle.table.specs.Loop.{least_at}
use Rattle.table.specs.Fault.{numbers_fault, head_fault, row_fault, rows_fault, fault_of}
use Rattle.table.specs.Laws.{judged}
use Rattle.table.specs.declared.check.TableHeader.{TableHeader}
use Rattle.table.specs.declared.check.Row.{Row}
use Rattle.table.specs.declared.faults.Fault.{Fault}
use Rattle.table.proofs.Rows.{first_least, next_least}
use Rattle.table.proofs.Sound.{directory_inside}

module _ (m : ℕ) (h : TableHeader) where
  pub numbers_agree : {A : Type 0} (x : A)
      → pick (good_numbers m h) (gives x) (refuses (malformed 0)) ≡ judged x (numbers_fault m h)
  unfolding good_numbers numbers_fault
  numbers_agree x = grind (arith, nat_tests)

module _ (t : List ℕ) (h : TableHeader) where
  abbrev pub fault_at : ℕ → Option Fault
  fault_at i = row_fault (length t) h (rises t h i) (row_at t h i)

  row_agrees : (i : ℕ)
      → pick {A = Outcome (Unit {0})} (good_row t h i) (gives tt) (refuses (malformed (row_at t h i).place))
      ≡ judged tt (fault_at i)
  unfolding good_row row_fault
  row_agrees i = grind (arith, nat_tests)

  -- to be above the number before is to be at least one more
  pub rises_by : (i least : ℕ) → least ≡ least_at t h i → leb least (row_at t h i).number.0 ≡ rises t h i
  unfolding least_at rises
  rises_by zero least e = grind (arith, nat_tests)
  rises_by (suc i) least e = grind (arith, nat_tests)

pub heads_agree : (t : List ℕ) → head_of t ≡ judged (numbers_at t) (head_fault t)
unfolding head_of head_fault
heads_agree t = grind (arith, nat_tests, numbers_agree)

-- one part behind another
joined : {A : Type 0} (x : A) (o p : Option Fault)
    → (judged {A = Unit {0}} tt o ⟫ λ _. judged x p) ≡ judged x (option_or o p)
joined x None p = refl
joined x (Some f) p = refl

behind : {A : Type 0} (x : A) (o : Option Fault) → (judged {A = Unit {0}} tt o ⟫ λ _. gives x) ≡ judged x o
behind x None = refl
behind x (Some f) = refl

module _ (t : List ℕ) (h : TableHeader) where
  pub rows_agree : (i : ℕ) → rows_checked t h i ≡ judged tt (rows_fault t h i)
  unfolding rows_checked rows_fault row_checked
  rows_agree zero = refl
  rows_agree (suc i) =
      rw (rows_agree i, row_agrees t h i) (joined tt (rows_fault t h i) (fault_at t h i))

  all_agree : rows_of t h ≡ judged h (rows_fault t h h.count)
  unfolding rows_of
  all_agree = rw (rows_agree h.count) (behind h (rows_fault t h h.count))

  whole : (o : Option Fault) → (judged h o ⟫ rows_of t) ≡ judged h (option_or o (rows_fault t h h.count))
  whole None = all_agree
  whole (Some f) = refl

  pub none_faulty : rows_fault t h 0 ≡ None
  unfolding rows_fault
  none_faulty = refl

  pub one_clear : (i : ℕ) → rows_fault t h i ≡ None → fault_at t h i ≡ None → rows_fault t h (i + 1) ≡ None
  unfolding rows_fault
  one_clear i e g = rw (add-one, e) g

  -- the first fault stays, whatever stands behind it
  stays : (f : Fault) (i k : ℕ) → rows_fault t h i ≡ Some f → i ≤ k → rows_fault t h k ≡ Some f
  unfolding rows_fault
  stays f i zero e l = let q : i ≡ 0 = omega arith in subst (λ (x : ℕ). rows_fault t h x ≡ Some f) q e
  stays f i (suc k) e l =
      ⊎_elim
      (λ q. subst (λ (x : ℕ). rows_fault t h x ≡ Some f) q e)
      (λ m. rw (stays f i k e (le_of_suc-le-suc m)) refl)
      (eq-or-lt_of_le l)

  pub first_faulty : (i : ℕ) (f : Fault) → i < h.count → rows_fault t h i ≡ None → fault_at t h i ≡ Some f
      → rows_fault t h h.count ≡ Some f
  unfolding rows_fault
  first_faulty i f l e g = stays f (suc i) h.count (rw e g) l

  pub last_clear : (i : ℕ) → i ≡ h.count → rows_fault t h i ≡ None → rows_fault t h h.count ≡ None
  last_clear i q e = subst (λ (x : ℕ). rows_fault t h x ≡ None) q e

-- the check's answer is told by the first fault
pub faults_agree : (t : List ℕ) → table_of t ≡ judged (numbers_at t) (fault_of t)
unfolding table_of fault_of
faults_agree t = rw (heads_agree t) (whole t (numbers_at t) (head_fault t))

pub long : (t : List ℕ) → head_fault t ≡ None → 20 ≤ length t
unfolding head_fault
long t e = grind (arith, nat_tests)

pub head_clear : (t : List ℕ) → head_fault t ≡ None → head_of t ≡ gives (numbers_at t)
head_clear t e = heads_agree t ∙ ap (judged (numbers_at t)) e

pub row_small : (m : ℕ) (h : TableHeader) (above : Bool) (r : Row) → row_fault m h above r ≡ None
    → r.number.0 < 0x1000000000000
unfolding row_fault
row_small m h above r e = grind (arith, nat_tests)

pub ruleset past_the_head = (long, head_clear)

pub ruleset fault_by_fault = (
  directory_inside,
  first_least,
  next_least,
  rises_by,
  none_faulty,
  one_clear,
  first_faulty,
  last_clear,
  row_small,
)
