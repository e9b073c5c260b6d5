-- The ways in, of any bytes: each says what one call says, and opens these bytes or is refused by 21, 1, 2
-- or 27.
use Rattle.std.proofs.Common.{ℕ, zero, suc, ◌+◌, ◌≤◌, ◌≡◌, List, length, refl, sym, ap, subst, eqb, ltb, ◌∙◌}
use Prim.Native.Nat.{zero-le}
use mathlib.Core.Logic.{◌⊎◌, inl, inr}
use Rattle.std.specs.Prelude.{Result, Ok, Err, IfOk}
use Rattle.fields.specs.Answer.{Outcome, gives, refuses, ◌⟫◌}
use Rattle.fields.specs.Told.{told_as}
use Rattle.fields.specs.Length.{good_length}
use Rattle.fields.specs.declared.RecordNumber.{RecordNumber}
use Rattle.fields.specs.declared.Refusal.{Refusal}
use Rattle.fields.specs.declared.Cause.TheVariants.{RecordLength, NotFile, BadTable, UsedSize}
use Rattle.fields.proofs.Answers.{back}
use Rattle.fields.proofs.Cases.{both}
use Rattle.table.specs.Check.{table_of, head_of, rows_of, rows_checked, row_checked, good_numbers, malformed}
use Rattle.table.specs.Layout.{numbers_at}
use Rattle.table.specs.declared.check.TableHeader.{TableHeader}
use Rattle.record.specs.Header.{used_size}
use Rattle.record.specs.Open.{Lent, lent, open_of, open_in, check_used, check_file, is_file}
use Rattle.items.specs.Told.{shown_base, file_of_bytes}
use Rattle.items.specs.Laws.{Opens as OpensBy}
use Rattle.items.specs.declared.File.{File}
use Rattle.items.proofs.Opened.{opened_in_lent}
use Rattle.bound.specs.Listing.{most}
use Rattle.bound.specs.Calls.{WayIn, at_once, unchecked, checked, Opens, Finished, Calls, refused, opened, EveryBytes}
use Rattle.bound.specs.Calls.{finished}
use Rattle.bound.proofs.Calls.{every_run}
use Rattle.bound.proofs.Openings.{way}

-- a refusal of the opening
abbrev OneOf : Refusal → Type 0
OneOf r = (r.cause ≡ BadTable) ⊎ ((r.cause ≡ RecordLength) ⊎ ((r.cause ≡ NotFile) ⊎ (r.cause ≡ UsedSize)))

abbrev Refuses : {A : Type 0} → Outcome A → Type 0
Refuses (gives x) = Unit {0}
Refuses (refuses r) = OneOf r

after : {A B : Type 0} (a : Outcome A) (k : A → Outcome B) → Refuses a → ((x : A) → Refuses (k x)) → Refuses (a ⟫ k)
after (gives x) k h o = o x
after (refuses r) k h o = h

table_row : (t : List ℕ) (h : TableHeader) (i : ℕ) → Refuses (row_checked t h i)
unfolding row_checked
table_row t h i = both Refuses _ (gives tt) (refuses (malformed _)) tt (inl refl)

table_rows : (t : List ℕ) (h : TableHeader) (i : ℕ) → Refuses (rows_checked t h i)
unfolding rows_checked
table_rows t h zero = tt
table_rows t h (suc i) = after (rows_checked t h i) (λ _. row_checked t h i) (table_rows t h i) (λ _. table_row t h i)

table_head : (t : List ℕ) → Refuses (head_of t)
unfolding head_of
table_head t = both Refuses _ (refuses (malformed 0)) _ (inl refl)
    (both Refuses (good_numbers (length t) (numbers_at t)) (gives (numbers_at t)) (refuses (malformed 0)) tt
    (inl refl))

table_all : (t : List ℕ) (h : TableHeader) → Refuses (rows_of t h)
unfolding rows_of
table_all t h = after (rows_checked t h h.count) (λ _. gives h) (table_rows t h h.count) (λ _. tt)

table_so : (t : List ℕ) → Refuses (table_of t)
unfolding table_of
table_so t = after (head_of t) (rows_of t) (table_head t) (table_all t)

record_so : (s : List ℕ) (n : RecordNumber) (size : ℕ) → Refuses (open_in s n size)
unfolding open_in open_of check_file check_used
record_so s n size =
    both Refuses (eqb (length s) size) _ (refuses _)
    (both Refuses (good_length (length s)) _ (refuses _)
    (both Refuses (is_file s) _ (refuses _)
    (both Refuses (ltb (length s) (used_size s)) (refuses _) (gives (lent s n)) (inr (inr (inr refl))) tt)
    (inr (inr (inl refl))))
    (inr (inl refl)))
    (inr (inl refl))

file_so : (t s : List ℕ) (n : RecordNumber) → Refuses (file_of_bytes t s n)
unfolding file_of_bytes
file_so t s n = after (table_of t) (λ h. open_in s n h.size) (table_so t) (λ h. record_so s n h.size)

-- a table that is refused refuses the file
no_table : (t s : List ℕ) (n : RecordNumber) (r : Refusal) → refuses r ≡ table_of t
    → refuses r ≡ file_of_bytes t s n
unfolding file_of_bytes
no_table t s n r e = ap (λ (a : Outcome TableHeader). a ⟫ λ h. open_in s n h.size) e

module _ (t s : List ℕ) (n : RecordNumber) where
  one : (r : Result File Refusal) → WayIn t s n r → OpensBy (file_of_bytes t s n) t r
  one r (at_once q e) = e
  one r (unchecked x e) = record { answer = no_table t s n x e.answer; table = tt }
  one r (checked b q e m) = record {
    answer = sym (way t b.bytes.now b.header (record { passed = e.answer; same = e.bytes }) s n
        (told_as shown_base q) m.answer);
    table = moved q m.table;
  }
    where
      moved : (x : Result File Refusal) → IfOk x (λ f. f.table.bytes.now ≡ b.bytes.now)
          → IfOk x (λ f. f.table.bytes.now ≡ t)
      moved (Ok f) h = h ∙ e.bytes
      moved (Err x) h = tt

  these : (f : File) → OpensBy (file_of_bytes t s n) t (Ok f) → Opens t s n (Ok f)
  unfolding file_of_bytes
  these f e =
      let k = back (table_of t) (λ h. open_in s n h.size) (shown_base f) (sym e.answer) in
      let l = opened_in_lent s n (shown_base f) k.first.size (sym k.next) in
      (e.table, ap (λ (y : Lent). y.bytes) l, ap (λ (y : Lent). y.number) l)

  opens : (r : Result File Refusal) → OpensBy (file_of_bytes t s n) t r → Opens t s n r
  opens (Ok f) e = these f e
  opens (Err r) e = subst Refuses (sym e.answer) (file_so t s n)

  bound_in : (f : File) (room : ℕ → ℕ) (c : ℕ) → f.base.bytes.now ≡ s → Finished f room c → c ≤ most (length s)
  bound_in f room c e (finished k d w r l q h) =
      let b = ((every_run f room).reads k d w r l q).bound in
      subst (λ (x : List ℕ). d + r.reads ≤ most (length x)) e b

  bound : (room : ℕ → ℕ) (c : ℕ) → Calls t s n room c → c ≤ most (length s)
  bound room c (refused r e) = zero-le
  bound room c (opened f d e l) = bound_in f room d (these f (one (Ok f) e)).1 l

pub every_bytes : EveryBytes
every_bytes t s n room = record {
  one = one t s n;
  opens = λ r e. opens t s n r (one t s n r e);
  bound = bound t s n room;
}
