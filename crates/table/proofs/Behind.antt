-- What stands behind the reach of a front changes nothing: neither the check's answer nor what the table holds.
use Rattle.std.specs.Prelude.{
  ℕ,
  zero,
  suc,
  ◌+◌,
  ◌*◌,
  ◌<◌,
  ◌≤◌,
  ◌≡◌,
  List,
  Bool,
  ◌++◌,
  length,
  take,
  drop,
  max,
  Option,
  option_map,
  Some,
  None,
}
use Rattle.std.proofs.Common.{arith, refl, sym, subst, ap, ◌∙◌, add-one, ⊎_elim, length-append}
use Rattle.std.proofs.Math.Nat.{eq-or-lt_of_le, le_of_suc-le-suc, le-max_left, le-max_right}
use Rattle.std.proofs.Math.ListN.{get_or-append}
use Rattle.std.proofs.lemmas.List.{take-append-le, drop-append-le}
use lib.ListN.{length-drop}
use Rattle.std.proofs.lemmas.Bool.Decides.{nat_tests}
use Rattle.fields.specs.Le.{le}
use Rattle.fields.specs.Answer.{Outcome, gives, refuses}
use Rattle.fields.proofs.Answers.{refused-given}
use Rattle.fields.proofs.Cases.{lt-n}
use Rattle.fields.specs.declared.RecordNumber.{RecordNumber}
use Rattle.table.specs.Layout.{numbers_at, row_size, row_in, row_at}
use Rattle.table.specs.Check.{malformed, rises, table_of}
use Rattle.table.specs.Fault.{numbers_fault, head_fault, row_fault, rows_fault, fault_of}
use Rattle.table.specs.Laws.{judged}
use Rattle.table.specs.Held.{Held, held_at, held_from, held_of, record_at, record_in, record_of}
use Rattle.table.specs.Held.{base_row, base_of}
use Rattle.table.specs.Rows.{filed_at, filed_from, filed_of}
use Rattle.table.specs.Reach.{rows_reach, behind_header, reach_of}
use Rattle.table.specs.declared.check.TableHeader.{TableHeader}
use Rattle.table.specs.declared.check.Row.{Row}
use Rattle.table.specs.declared.faults.Fault.{Fault}
use Rattle.table.proofs.Agree.{faults_agree}
use Rattle.table.proofs.Sound.{sound}

-- what the loop over the rows goes by
pub directory_ends : (m : ℕ) (h : TableHeader) → numbers_fault m h ≡ None → h.directory + row_size * h.count ≤ h.records
unfolding numbers_fault
directory_ends m h e = grind (arith, nat_tests)

module _ (t : List ℕ) (h : TableHeader) where
  pub no_rows : rows_reach t h 0 ≡ h.records
  unfolding rows_reach
  no_rows = refl

  pub one_row : (i : ℕ) → rows_reach t h (i + 1) ≡ max (rows_reach t h i) ((row_at t h i).offset + h.size)
  unfolding rows_reach
  one_row i = rw add-one refl

pub ruleset row_by_row = (directory_ends, no_rows, one_row)

-- numbers and rows of a front
le_behind : (w : ℕ) (s r : List ℕ) (i : ℕ) → i + w ≤ length s → le w (s ++ r) i ≡ le w s i
unfolding le
le_behind zero s r i l = refl
le_behind (suc w) s r i l = rw (get_or-append s r 0 i (omega arith), le_behind w s r (i + 1) (omega arith)) refl

module _ (t r : List ℕ) where
  numbers_behind : 20 ≤ length t → numbers_at (t ++ r) ≡ numbers_at t
  unfolding numbers_at
  numbers_behind l =
      rw (
        le_behind 4 t r 0 (omega arith),
        le_behind 4 t r 4 (omega arith),
        le_behind 4 t r 8 (omega arith),
        le_behind 4 t r 12 (omega arith),
        le_behind 4 t r 16 (omega arith),
      ) refl

  row_behind : (h : TableHeader) (i : ℕ) → h.directory + row_size * i + row_size ≤ length t
      → row_at (t ++ r) h i ≡ row_at t h i
  unfolding row_at row_in
  row_behind h i l =
      rw (
        le_behind 8 t r (h.directory + row_size * i) (omega arith),
        le_behind 4 t r (h.directory + row_size * i + 8) (omega arith),
      ) refl

  longer : length t ≤ length (t ++ r)
  longer = omega (arith, length-append t r)

-- the header's own faults need no length
own_fault : (m : ℕ) (h : TableHeader) (f : Fault) → numbers_fault h.records h ≡ Some f → numbers_fault m h ≡ Some f
unfolding numbers_fault
own_fault m h f e = grind (arith, nat_tests)

own_none : (m : ℕ) (h : TableHeader) → numbers_fault h.records h ≡ None → h.records ≤ m → numbers_fault m h ≡ None
unfolding numbers_fault
own_none m h e l = grind (arith, nat_tests)

head_long : (t : List ℕ) → 20 ≤ length t → head_fault t ≡ numbers_fault (length t) (numbers_at t)
unfolding head_fault
head_long t l = sym (lt-n (length t) 20 _ _ l refl)

head_decides : (t : List ℕ) (f : Fault) → head_fault t ≡ Some f → fault_of t ≡ Some f
unfolding fault_of
head_decides t f e = rw e refl

rows_decide : (t : List ℕ) → head_fault t ≡ None → fault_of t ≡ rows_fault t (numbers_at t) (numbers_at t).count
unfolding fault_of
rows_decide t e = rw e refl

-- a record that both lengths hold
row_fault_either : (m n : ℕ) (h : TableHeader) (above : Bool) (x : Row) → x.offset + h.size ≤ m → x.offset + h.size ≤ n
    → row_fault m h above x ≡ row_fault n h above x
unfolding row_fault
row_fault_either m n h above x k l = grind (arith, nat_tests)

-- a front that reaches over the rows
record Rows (t : List ℕ) (h : TableHeader) : Type 0 where
  directory : h.directory + row_size * h.count ≤ length t
  reach : rows_reach t h h.count ≤ length t

module _ (t r : List ℕ) (h : TableHeader) (rows : Rows t h) where
  reach_over : (i k : ℕ) → i < k → (row_at t h i).offset + h.size ≤ rows_reach t h k
  unfolding rows_reach
  reach_over i zero l = absurd (omega arith)
  reach_over i (suc k) l =
      ⊎_elim
      (λ q. subst
      (λ (x : ℕ). (row_at t h x).offset + h.size ≤ max (rows_reach t h k) ((row_at t h k).offset + h.size)) (sym q)
      (le-max_right (rows_reach t h k) ((row_at t h k).offset + h.size)))
      (λ m. let a = reach_over i k m in
      let b = le-max_left (rows_reach t h k) ((row_at t h k).offset + h.size) in
      omega arith)
      (eq-or-lt_of_le (le_of_suc-le-suc l))

  record_ends : (i : ℕ) → i < h.count → (row_at t h i).offset + h.size ≤ length t
  record_ends i l = let a = reach_over i h.count l in let b = rows.reach in omega arith

  same_row : (i : ℕ) → i < h.count → row_at (t ++ r) h i ≡ row_at t h i
  same_row i l = let d = rows.directory in row_behind t r h i (omega arith)

  same_rises : (i : ℕ) → i < h.count → rises (t ++ r) h i ≡ rises t h i
  unfolding rises
  same_rises zero l = refl
  same_rises (suc i) l = rw (same_row i (omega arith), same_row (suc i) l) refl

  same_fault : (i : ℕ) → i ≤ h.count → rows_fault (t ++ r) h i ≡ rows_fault t h i
  unfolding rows_fault
  same_fault zero l = refl
  same_fault (suc i) l =
      let a = record_ends i l in
      let b = longer t r in
      rw (
        same_fault i (omega arith),
        same_rises i l,
        same_row i l,
        row_fault_either (length (t ++ r)) (length t) h (rises t h i) (row_at t h i) (omega arith) a,
      ) refl

  -- a row's record
  same_bytes : (i : ℕ) → i < h.count
      → take h.size (drop (row_at t h i).offset (t ++ r)) ≡ take h.size (drop (row_at t h i).offset t)
  same_bytes i l =
      let a = record_ends i l in
      let o = (row_at t h i).offset in
      ap (take h.size) (drop-append-le o t r (omega arith))
      ∙ take-append-le h.size (drop o t) r (omega (arith, length-drop o t))

  same_held : (i : ℕ) → i < h.count → held_at (t ++ r) h i ≡ held_at t h i
  unfolding held_at record_at
  same_held i l =
      rw (same_row i l, same_bytes i l) refl

  same_from : (k i : ℕ) → i + k ≤ h.count → held_from (t ++ r) h k i ≡ held_from t h k i
  unfolding held_from
  same_from zero i l = refl
  same_from (suc k) i l = rw (same_held i (omega arith), same_from k (i + 1) (omega arith)) refl

  same_filed : (i : ℕ) → i < h.count → filed_at (t ++ r) h i ≡ filed_at t h i
  unfolding record_at
  same_filed i l =
      rw (same_row i l, same_bytes i l) refl

  same_rows : (k i : ℕ) → i + k ≤ h.count → filed_from (t ++ r) h k i ≡ filed_from t h k i
  unfolding filed_from
  same_rows zero i l = refl
  same_rows (suc k) i l = rw (same_filed i (omega arith), same_rows k (i + 1) (omega arith)) refl

-- a front that is as long as its reach
module _ (t r : List ℕ) (enough : reach_of t ≤ length t) where
  abbrev h : TableHeader
  h = numbers_at t

  pub header_there : 20 ≤ length t
  unfolding reach_of
  header_there = grind (arith, nat_tests)

  reach_is : reach_of t ≡ behind_header t h (numbers_fault h.records h)
  unfolding reach_of
  reach_is = sym (lt-n (length t) 20 _ _ header_there refl)

  records_there : numbers_fault h.records h ≡ None → h.records ≤ length t
  records_there e =
      let q : reach_of t ≡ behind_header t h None = reach_is ∙ ap (behind_header t h) e in
      grind (arith, nat_tests)

  rows_there : numbers_fault h.records h ≡ None → Rows t h
  rows_there e =
      let d = directory_ends h.records h e in
      let k = records_there e in
      let q : reach_of t ≡ behind_header t h None = reach_is ∙ ap (behind_header t h) e in
      let w : reach_of t ≡ rows_reach t h h.count = q ∙ sym (lt-n (length t) h.records _ _ k refl) in
      record { directory = omega arith; reach = subst (λ (x : ℕ). x ≤ length t) w enough }

  numbers_same : numbers_at (t ++ r) ≡ h
  numbers_same = numbers_behind t r header_there

  head_same : head_fault (t ++ r) ≡ numbers_fault (length (t ++ r)) h
  head_same =
      let k = longer t r in
      let l = header_there in
      head_long (t ++ r) (omega arith) ∙ ap (numbers_fault (length (t ++ r))) numbers_same

  by_own : (o : Option Fault) → numbers_fault h.records h ≡ o → fault_of (t ++ r) ≡ fault_of t
  by_own (Some f) e =
      head_decides (t ++ r) f (head_same ∙ own_fault (length (t ++ r)) h f e)
      ∙ sym (head_decides t f (head_long t header_there ∙ own_fault (length t) h f e))
  by_own None e =
      let k = records_there e in
      let l = longer t r in
      let here : head_fault t ≡ None = head_long t header_there ∙ own_none (length t) h e k in
      let there : head_fault (t ++ r) ≡ None = head_same ∙ own_none (length (t ++ r)) h e (omega arith) in
      rows_decide (t ++ r) there
      ∙ ap (λ (x : TableHeader). rows_fault (t ++ r) x x.count) numbers_same
      ∙ same_fault t r h (rows_there e) h.count (omega arith)
      ∙ sym (rows_decide t here)

  pub fault_same : fault_of (t ++ r) ≡ fault_of t
  fault_same = by_own (numbers_fault h.records h) refl

  pub table_same : table_of (t ++ r) ≡ table_of t
  table_same =
      faults_agree (t ++ r)
      ∙ ap (judged (numbers_at (t ++ r))) fault_same
      ∙ ap (λ (x : TableHeader). judged x (fault_of t)) numbers_same
      ∙ sym (faults_agree t)

gives-not_judged : {k : TableHeader} {n : ℕ} → ◌≡◌ {A = Outcome TableHeader} (refuses (malformed n)) (gives k) → ⊥
gives-not_judged e = refused-given e

based_within : (m : ℕ) (h : TableHeader) → numbers_fault m h ≡ None → h.base ≤ h.count
unfolding numbers_fault
based_within m h e = grind (arith, nat_tests)

-- what a table holds
module _ (t r : List ℕ) (enough : reach_of t ≤ length t) (k : TableHeader) (checked : table_of t ≡ gives k) where
  abbrev own : TableHeader
  own = numbers_at t

  own_is : (o : Option Fault) → numbers_fault own.records own ≡ o → numbers_fault own.records own ≡ None
  own_is None e = e
  own_is (Some f) e =
      let there = header_there t r enough in
      let a : fault_of t ≡ Some f = head_decides t f (head_long t there ∙ own_fault (length t) own f e) in
      let b : table_of t ≡ judged own (Some f) = faults_agree t ∙ ap (judged own) a in
      absurd (gives-not_judged (sym b ∙ checked))

  clear : numbers_fault own.records own ≡ None
  clear = own_is (numbers_fault own.records own) refl

  rows : Rows t own
  rows = rows_there t r enough clear

  header : numbers_at (t ++ r) ≡ own
  header = numbers_same t r enough

  pub held_same : held_of (t ++ r) ≡ held_of t
  unfolding held_of
  held_same =
      ap (λ (x : TableHeader). held_from (t ++ r) x x.count 0) header ∙ same_from t r own rows own.count 0 (omega arith)

  pub record_same : (n : RecordNumber) → record_of (t ++ r) n ≡ record_of t n
  unfolding record_of
  record_same n = ap (λ (x : List Held). record_in x n) held_same

  based_same : (o : Option ℕ) → ((i : ℕ) → o ≡ Some i → i < own.count)
      → option_map (held_at (t ++ r) own) o ≡ option_map (held_at t own) o
  based_same None l = refl
  based_same (Some i) l = ap Some (same_held t r own rows i (l i refl))

  base_below : (i : ℕ) → base_row own ≡ Some i → i < own.count
  unfolding base_row
  base_below i e = let l = based_within own.records own clear in grind (arith, nat_tests)

  pub base_same : base_of (t ++ r) ≡ base_of t
  unfolding base_of
  base_same =
      ap (λ (x : TableHeader). option_map (held_at (t ++ r) x) (base_row x)) header
      ∙ based_same (base_row own) base_below

  pub filed_same : filed_of (t ++ r) k ≡ filed_of t k
  filed_same =
      subst (λ (x : TableHeader). filed_of (t ++ r) x ≡ filed_of t x) (sym (sound t k checked).head.is)
      (same_rows t r own rows own.count 0 (omega arith))
