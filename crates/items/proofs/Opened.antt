-- What the opening of a file and a lookup lean on.
use Rattle.std.proofs.Common.{ℕ, ◌≡◌, List, true, length, eqb, ltb, sym, ap, ◌∙◌}
use Rattle.std.specs.Prelude.{Option, Some, None, IfOk, IfSome, Result, Ok, Err, option_copied}
use Rattle.std.specs.Borrow.{Bor}
use Rattle.std.proofs.lemmas.Bool.{eqb-true}
use Rattle.fields.specs.Answer.{Outcome, gives, refuses, refusal}
use Rattle.fields.specs.Told.{told_as}
use Rattle.fields.specs.Length.{good_length}
use Rattle.fields.specs.declared.RecordNumber.{RecordNumber}
use Rattle.fields.specs.declared.Refusal.{Refusal}
use Rattle.fields.specs.declared.Cause.TheVariants.{NoRecord}
use Rattle.fields.proofs.Cases.{not_first, not-second}
use Rattle.fields.proofs.Answers.{the-given, refused-given}
use Rattle.table.specs.Check.{table_of}
use Rattle.table.specs.Held.{record_of}
use Rattle.table.specs.declared.check.TableHeader.{TableHeader}
use Rattle.table.proofs.Sound.{sound}
use Rattle.table.proofs.Holds.{record-sized}
use Rattle.record.specs.Header.{used_size}
use Rattle.record.specs.Open.{Lent, lent, is_file, check_used, check_file, open_of, open_in}
use Rattle.record.specs.Told.{shown_record}
use Rattle.record.specs.declared.Record.{Record}
use Rattle.items.specs.Lookup.{held_by, lookup_of, opened_as}

-- a record that passed has a record's length
good : (s : List ℕ) (n : RecordNumber) → open_of s n ≡ gives (lent s n) → good_length (length s) ≡ true
unfolding open_of
good s n e = (not-second _ _ _ _ e refused-given).0

-- what the table has is as long as the base record
pub held_sized : (t : List ℕ) (h : TableHeader) (w : RecordNumber) (m : ℕ) (x : Option (Bor (List ℕ)))
    → table_of t ≡ gives h → m ≡ h.size → option_copied x ≡ record_of t w → IfSome x (λ b. length b.now ≡ m)
held_sized t h w m (Some b) e l q = record-sized (sound t h e) w b.now (sym q) ∙ sym l
held_sized t h w m None e l q = tt

-- a record that was opened is the one that was lent
opened_used : (s : List ℕ) (n : RecordNumber) (x : Lent) → gives x ≡ check_used s n → x ≡ lent s n
unfolding check_used
opened_used s n x e =
    the-given (sym (not_first (ltb (length s) (used_size s)) _ _ _ (sym e) refused-given).1)

pub opened_file : (s : List ℕ) (n : RecordNumber) (x : Lent) → gives x ≡ check_file s n → x ≡ lent s n
unfolding check_file
opened_file s n x e =
    opened_used s n x (sym (not-second (is_file s) _ _ _ (sym e) refused-given).1)

opened_as_lent : (s : List ℕ) (n : RecordNumber) (x : Lent) → gives x ≡ open_of s n → x ≡ lent s n
unfolding open_of
opened_as_lent s n x e =
    opened_file s n x (sym (not-second (good_length (length s)) _ _ _ (sym e) refused-given).1)

pub opened_in_lent : (s : List ℕ) (n : RecordNumber) (x : Lent) (m : ℕ) → gives x ≡ open_in s n m → x ≡ lent s n
unfolding open_in
opened_in_lent s n x m e =
    opened_as_lent s n x (sym (not-second (eqb (length s) m) _ _ _ (sym e) refused-given).1)

pub sized_in : (s : List ℕ) (n : RecordNumber) (x : Lent) (m : ℕ) → gives x ≡ open_in s n m → length x.bytes ≡ m
unfolding open_in
sized_in s n x m e =
    let w = not-second (eqb (length s) m) _ _ _ (sym e) refused-given in
    ap (λ (y : Lent). length y.bytes) (opened_as_lent s n x (sym w.1)) ∙ eqb-true _ _ w.0

-- a record that was opened is as long as what was lent
pub looked_sized : (b : List ℕ) (w : RecordNumber) (m : ℕ) (x : Result Record Refusal) → length b ≡ m
    → told_as shown_record x ≡ open_of b w → IfOk x (λ r. length r.bytes.now ≡ m)
looked_sized b w m (Ok r) l e = ap (λ (y : Lent). length y.bytes) (opened_as_lent b w _ e) ∙ l
looked_sized b w m (Err r) l e = tt

module _ (s : List ℕ) (n w : RecordNumber) (look : RecordNumber → Option (List ℕ)) (place : ℕ) where
  -- what is held passes check 1, so that its opening is checks 2 and 27
  pub looked : (b : List ℕ) (x : Outcome Lent) → open_of s n ≡ gives (lent s n) → Some b ≡ held_by s n look w
      → length b ≡ length s → x ≡ open_of b w → x ≡ lookup_of s n look w place
  unfolding lookup_of opened_as open_of
  looked b x e q l i =
      let g : good_length (length b) ≡ true = ap good_length l ∙ good s n e in
      i ∙ rw g (ap (opened_as w (refusal NoRecord n place)) q)

  pub missed : None ≡ held_by s n look w → refuses (refusal NoRecord n place) ≡ lookup_of s n look w place
  unfolding lookup_of opened_as
  missed q = ap (opened_as w (refusal NoRecord n place)) q

pub ruleset looks = (looked, missed)
