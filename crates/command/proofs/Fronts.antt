-- What is read of an input is enough for what is asked of it, and for the reason that is told.
use Rattle.std.specs.Prelude.{ℕ, ◌≤◌, ◌≡◌, List, [], ◌∷◌, ◌++◌, true, false, length, map, leb}
use Rattle.std.specs.Prelude.{eqb, Option, Some, None, IfSome, Result, Ok, Err, IfOk, OnErr}
use Rattle.std.specs.Io.KnownBytes.{Appends}
use Rattle.std.proofs.KnownBytes.{Keeps-refl}
use Rattle.std.proofs.Common.{arith, refl, sym, subst, ap, ◌∙◌, ⊎_elim, append-nil, length-append, inl, inr}
use Rattle.std.proofs.lemmas.List.{take-append-le}
use Rattle.std.proofs.lemmas.Bool.Decides.{nat_tests}
use mathlib.Core.Path.{fun_ext}
use Rattle.fields.specs.Answer.{Outcome, gives, refuses}
use Rattle.fields.specs.declared.RecordNumber.{RecordNumber}
use Rattle.table.specs.Check.{table_of}
use Rattle.table.specs.Held.{Held, record_of, base_of}
use Rattle.table.specs.Reach.{reach_of}
use Rattle.table.specs.declared.check.TableHeader.{TableHeader}
use Rattle.table.proofs.Behind.{header_there, table_same, fault_same, base_same, record_same}
use Rattle.fields.specs.Length.{good_length}
use Rattle.fields.specs.declared.Cause.{Cause}
use Rattle.record.specs.Open.{Lent, open_of, open_in, is_file}
use Rattle.items.specs.State.{fresh_of}
use Rattle.lines.specs.declared.line.Line as listing
use Rattle.lines.specs.declared.line.Line.TheVariants as line
use Rattle.lines.specs.Listing.{most_parts, walk_lines, opened_lines, base_lines, table_lines, checked_lines}
use Rattle.lines.specs.Numbered.{found_lines, numbered_lines}
use Rattle.lines.specs.Numbered as numbers
use Rattle.lines.specs.Went.{StopsWithin}
use Rattle.lines.specs.declared.ending.Ending.{Ending}
use Rattle.lines.specs.declared.ending.Ending.TheVariants as ending
use Rattle.report.specs.Form.{lines_text}
use Rattle.report.specs.Ending.{ending_of}
use Rattle.report.specs.Record.{record_lines}
use Rattle.report.specs.declared.form.Form.{Form}
use Rattle.report.specs.declared.line.Line.{Line}
use Rattle.report.specs.declared.line.Line.TheVariants as told
use Rattle.report.proofs.Alike as rows
use Rattle.command.specs.Asked.{asked_lines, reach_for, record_reach}
use Rattle.command.specs.Misfit.{misfit_of}
use Rattle.command.specs.Reason.{table_reason, refused_reason, ending_reason}
use Rattle.command.specs.Read.{IsEnough, IsUnread}
use Rattle.command.specs.Run.{Tells, Ran}
use Rattle.command.specs.declared.asked.Asked.{Asked}
use Rattle.command.specs.declared.asked.Asked.TheVariants as asked
use Rattle.command.specs.declared.misfit.Misfit.{Misfit}
use Rattle.command.specs.declared.reason.Reason.{Reason}
use Rattle.command.specs.declared.reason.Reason.TheVariants.{Unfit}

module _ (t r : List ℕ) (enough : reach_of t ≤ length t) where
  module _ (h : TableHeader) (checked : table_of t ≡ gives h) where
    looks : record_of (t ++ r) ≡ record_of t
    looks = fun_ext (record_same t r enough h checked)

    opened : (room : ℕ) (b : Outcome Lent) → opened_lines room (t ++ r) b ≡ opened_lines room t b
    unfolding opened_lines
    opened room (gives b) =
        ap (λ (look : RecordNumber → Option (List ℕ)). walk_lines room b.bytes b.number look 0 (fresh_of b.bytes)) looks
    opened room (refuses x) = refl

    based : (room : ℕ) (b : Option Held) → base_lines room (t ++ r) h b ≡ base_lines room t h b
    unfolding base_lines
    based room None = refl
    based room (Some b) =
        ap (λ (ls : List listing.Line). line.Record b.number (length b.bytes) ∷ ls)
        (opened room (open_in b.bytes b.number h.size))

    tabled : (room : ℕ) → table_lines room (t ++ r) h ≡ table_lines room t h
    unfolding table_lines
    tabled room = ap (base_lines room (t ++ r) h) (base_same t r enough h checked) ∙ based room (base_of t)

    found : (room : ℕ) (n : RecordNumber) (o : Option (List ℕ))
        → found_lines room (t ++ r) h n o ≡ found_lines room t h n o
    unfolding found_lines
    found room n None = refl
    found room n (Some s) = based room (Some (record { number = n; bytes = s }))

    numbered : (room : ℕ) (n : RecordNumber) → numbers.record_lines room (t ++ r) h n ≡ numbers.record_lines room t h n
    numbered room n =
        ap (found_lines room (t ++ r) h n) (record_same t r enough h checked n) ∙ found room n (record_of t n)

  listed_by : (room : ℕ) (a : Outcome TableHeader) → table_of t ≡ a
      → checked_lines room (t ++ r) a ≡ checked_lines room t a
  unfolding checked_lines
  listed_by room (gives h) e = tabled h e room
  listed_by room (refuses x) e = refl

  numbered_by : (room : ℕ) (n : RecordNumber) (a : Outcome TableHeader) → table_of t ≡ a
      → numbered_lines room (t ++ r) n a ≡ numbered_lines room t n a
  unfolding numbered_lines
  numbered_by room n (gives h) e = numbered h e room n
  numbered_by room n (refuses x) e = refl

  lines_same : (wanted : Option RecordNumber)
      → asked_lines (asked.Listing wanted) (t ++ r) ≡ asked_lines (asked.Listing wanted) t
  unfolding asked_lines
  lines_same None =
      ap (map (λ l. told.Listed l))
      (ap (checked_lines most_parts (t ++ r)) (table_same t r enough) ∙ listed_by most_parts (table_of t) refl)
  lines_same (Some n) =
      ap (map (λ l. told.Listed l))
      (ap (numbered_lines most_parts (t ++ r) n) (table_same t r enough) ∙ numbered_by most_parts n (table_of t) refl)

  pub file_same : is_file (t ++ r) ≡ is_file t
  unfolding is_file
  file_same = let l = header_there t r enough in rw (take-append-le 4 t r (omega arith)) refl

  reason_same : (wanted : Option RecordNumber) → table_reason (t ++ r) wanted ≡ table_reason t wanted
  unfolding table_reason
  reason_same wanted =
      let l = header_there t r enough in
      let k = length-append t r in
      let a : eqb (length t) 0 ≡ false = grind (arith, nat_tests) in
      let b : eqb (length (t ++ r)) 0 ≡ false = grind (arith, nat_tests) in
      rw (a, b, file_same, fault_same t r enough) refl

-- a record, of which more bytes were read than a record may have
module _ (t r : List ℕ) (enough : record_reach ≤ length t) where
  bad_length : (m : ℕ) → record_reach ≤ m → good_length m ≡ false
  unfolding good_length
  bad_length m l = grind (arith, nat_tests)

  longer : record_reach ≤ length (t ++ r)
  longer = let k = length-append t r in omega arith

  open_same : (n : RecordNumber) → open_of (t ++ r) n ≡ open_of t n
  unfolding open_of
  open_same n = rw (bad_length (length (t ++ r)) longer, bad_length (length t) enough) refl

  misfit_same : misfit_of (t ++ r) ≡ misfit_of t
  unfolding misfit_of
  misfit_same =
      let l = longer in
      let a : eqb (length t) 0 ≡ false = grind (arith, nat_tests) in
      let b : eqb (length (t ++ r)) 0 ≡ false = grind (arith, nat_tests) in
      let c : leb record_reach (length t) ≡ true = grind (arith, nat_tests) in
      let d : leb record_reach (length (t ++ r)) ≡ true = grind (arith, nat_tests) in
      rw (a, b, c, d, take-append-le record_reach t r enough) refl

pub fronts_tell : (a : Asked) (t r : List ℕ) → reach_for a t ≤ length t → asked_lines a (t ++ r) ≡ asked_lines a t
unfolding reach_for asked_lines
fronts_tell (asked.Listing wanted) t r l = lines_same t r l wanted
fronts_tell asked.Rows t r l = rows.fronts_tell t r l
fronts_tell (asked.Record n) t r l = ap record_lines (open_same t r l n)

pub fronts_explain : (a : Asked) (c : Cause) (t r : List ℕ) → reach_for a t ≤ length t
    → refused_reason a (t ++ r) c ≡ refused_reason a t c
unfolding reach_for refused_reason
fronts_explain (asked.Listing wanted) c t r l = reason_same t r l wanted
fronts_explain asked.Rows c t r l = reason_same t r l None
fronts_explain (asked.Record n) c t r l = ap (λ (m : Misfit). Unfit m c) (misfit_same t r l)

-- what was read, and the input
same_by : {A : Type 0} (f : List ℕ → A) (a : Asked) (t bytes : List ℕ)
    → ((r : List ℕ) → reach_for a t ≤ length t → f (t ++ r) ≡ f t) → IsEnough a t bytes → f bytes ≡ f t
same_by f a t bytes same (rest, e, o) =
    ⊎_elim
    (λ l. ap f e ∙ same rest l)
    (λ q. ap f (e ∙ ap (λ (x : List ℕ). t ++ x) q ∙ append-nil t))
    o

lines_enough : (a : Asked) (t bytes : List ℕ) → IsEnough a t bytes → asked_lines a bytes ≡ asked_lines a t
lines_enough a t bytes = same_by (asked_lines a) a t bytes (fronts_tell a t)

reason_enough : (a : Asked) (t bytes : List ℕ) → IsEnough a t bytes → (e : Ending)
    → ending_reason a t e ≡ ending_reason a bytes e
reason_enough a t bytes enough ending.Whole = refl
reason_enough a t bytes enough (ending.Stopped cause) = refl
reason_enough a t bytes enough (ending.Refused cause) =
    ap Some (sym (same_by (λ (x : List ℕ). refused_reason a x cause) a t bytes (fronts_explain a cause t) enough))

tells_over : (a : Asked) (f : Form) (t bytes : List ℕ) (old new : Option (List ℕ)) (reason : Option Reason)
    → IsEnough a t bytes → Tells a f t old new reason → Tells a f bytes old new reason
tells_over a f t bytes old new reason enough (written, (e, q, p)) =
    let l = lines_enough a t bytes enough in (
      subst (λ (ls : List Line). Appends old new (lines_text f ls)) (sym l) written,
      (e, ap ending_of l ∙ q, p ∙ reason_enough a t bytes enough e),
    )

-- what was done with what was read was done with the input
pub ran_over : {E : Type 0} (o : Option (List ℕ)) (a : Asked) (f : Form) (t : List ℕ) (old new : Option (List ℕ))
    (r : Result (Option Reason) E) → IfSome o (IsEnough a t) → IfOk r (λ reason. Tells a f t old new reason)
    → OnErr r (StopsWithin old new (lines_text f (asked_lines a t)))
    → IfSome o (λ bytes. Ran a f bytes old new r)
ran_over None a f t old new r enough k e = tt
ran_over (Some bytes) a f t old new (Ok reason) enough k e =
    inl (tells_over a f t bytes old new reason enough k)
ran_over (Some bytes) a f t old new (Err x) enough k e =
    subst (λ (ls : List Line). StopsWithin old new (lines_text f ls)) (sym (lines_enough a t bytes enough)) e

pub skipped : {E : Type 0} (o : Option (List ℕ)) (a : Asked) (f : Form) (old : Option (List ℕ))
    (reason : Reason) (r : Result (Option Reason) E) → r ≡ Ok (Some reason) → IsUnread reason
    → IfSome o (λ bytes. Ran a f bytes old old r)
skipped None a f old reason r e u = tt
skipped (Some bytes) a f old reason r e u = rw e (inr (Keeps-refl old, u))

-- the same, of bytes that no contract knows
pub ran : {E : Type 0} (a : Asked) (f : Form) (t : List ℕ) (old new : Option (List ℕ)) (r : Result (Option Reason) E)
    → IfOk r (λ reason. Tells a f t old new reason)
    → OnErr r (StopsWithin old new (lines_text f (asked_lines a t))) → Ran a f t old new r
ran a f t old new (Ok reason) k e = inl k
ran a f t old new (Err x) k e = e

pub skipped_any : {E : Type 0} (a : Asked) (f : Form) (old : Option (List ℕ)) (reason : Reason)
    (r : Result (Option Reason) E) → r ≡ Ok (Some reason) → IsUnread reason
    → (bytes : List ℕ) × Ran a f bytes old old r
skipped_any a f old reason r e u = ([], rw e (inr (Keeps-refl old, u)))

pub ruleset runs = (ran_over, skipped, skipped_any)
