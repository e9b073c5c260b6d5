-- A row sought by halves: what one look says of the rows before and behind it, in a table that passed its check.
use Rattle.std.specs.Prelude.{ℕ, ◌+◌, ◌*◌, ◌<◌, ◌≤◌, ◌≡◌, List, length, Some, None}
use Rattle.std.proofs.Common.{arith, sym, ap, ◌∙◌, subst, ⊎_elim}
use Rattle.std.proofs.Math.Nat.{eq-or-lt_of_le}
use Rattle.fields.specs.Answer.{gives}
use Rattle.fields.specs.declared.RecordNumber.{RecordNumber}
use Rattle.table.specs.declared.check.TableHeader.{TableHeader}
use Rattle.table.specs.Layout.{row_at}
use Rattle.table.specs.Check.{table_of}
use Rattle.table.specs.Row.{first_row}
use Rattle.table.specs.declared.check.Row.{Row}
use Rattle.table.proofs.Sound.{sound}
use Rattle.table.proofs.InTurn.{first_found}
use Rattle.table.proofs.Looks.{before_looks, look_on, few_looks}

-- the rows below row n have numbers under w
pub record Before (t : List ℕ) (h : TableHeader) (w : RecordNumber) (n : ℕ) : Type 0 where
  pub under : (j : ℕ) → j < n → (row_at t h j).number.0 < w.0

-- the rows from row n on have numbers over w
pub record Behind (t : List ℕ) (h : TableHeader) (w : RecordNumber) (n : ℕ) : Type 0 where
  pub over : (j : ℕ) → n ≤ j → j < h.count → w.0 < (row_at t h j).number.0

rising : (t : List ℕ) (h : TableHeader) (i j : ℕ) → table_of t ≡ gives h → i ≤ j → j < h.count
    → (row_at t h i).number.0 ≤ (row_at t h j).number.0
rising t h i j e l k = ⊎_elim
    (λ q. subst (λ (x : ℕ). (row_at t h i).number.0 ≤ (row_at t h x).number.0) q (omega arith))
    (λ m. omega (arith, (sound t h e).rises i j m k))
    (eq-or-lt_of_le l)

module _ (t : List ℕ) (h : TableHeader) (w : RecordNumber) where
  pub before_none : Before t h w 0
  before_none = record { under = λ j l. absurd (omega arith) }

  pub behind_none : Behind t h w h.count
  behind_none = record { over = λ j l m. absurd (omega arith) }

  pub before_row : (i : ℕ) → table_of t ≡ gives h → i < h.count → (row_at t h i).number.0 < w.0 → Before t h w (i + 1)
  before_row i e l m = record { under = λ j k. omega (arith, rising t h j i e (omega arith) l) }

  pub behind_row : (i : ℕ) → table_of t ≡ gives h → w.0 < (row_at t h i).number.0 → Behind t h w i
  behind_row i e m = record { over = λ j k l. omega (arith, rising t h i j e k l) }

  pub nowhere : (a b : ℕ) → table_of t ≡ gives h → Before t h w a → Behind t h w b → b ≤ a → None ≡ first_row t h w
  nowhere a b e p q l = sym (first_found (sound t h e) w None λ j m u.
      let out : j < a → ⊥ = λ x. omega (arith, p.under j x) in
      omega (arith, q.over j (omega arith) m))

  pub here : (i : ℕ) (r : Row) → table_of t ≡ gives h → i < h.count → r ≡ row_at t h i → r.number.0 ≡ w.0
      → Some r ≡ first_row t h w
  here i r e l u v =
      ap Some u
      ∙ sym (first_found (sound t h e) w (Some i) (l, sym (ap (λ (x : Row). x.number.0) u) ∙ v))

-- the directory and the records lie inside the table
module _ (t : List ℕ) (h : TableHeader) where
  pub directory_ends : table_of t ≡ gives h → h.directory + 12 * h.count ≤ length t
  directory_ends e = let d = (sound t h e).head in omega arith

  pub record_ends : (i : ℕ) → table_of t ≡ gives h → i < h.count → (row_at t h i).offset + h.size ≤ length t
  record_ends i e l = (sound t h e).stops i l

pub ruleset halves = (before_none, behind_none, before_row, behind_row, nowhere, here, before_looks, look_on, few_looks)

pub ruleset bounds = (directory_ends, record_ends)
