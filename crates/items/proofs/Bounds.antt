-- Check 22 before the steps of a call: what it leaves of a list, and how it decides the call.
use Rattle.std.proofs.Common.{ℕ, ◌≡◌, List, true, false, length, sym, ap, ◌∙◌, arith}
use Rattle.std.proofs.lemmas.Bool.Decides.{nat_tests}
use Rattle.std.specs.Prelude.{Option, Some, None, IfSome}
use Rattle.fields.specs.Answer.{gives, refuses, refusal}
use Rattle.fields.specs.declared.RecordNumber.{RecordNumber}
use Rattle.fields.proofs.Cases.{not-second, not_first}
use Rattle.fields.proofs.Answers.{refused-given}
use Rattle.fields.specs.declared.Refusal.{Refusal}
use Rattle.fields.specs.declared.Cause.TheVariants.{BadState}
use Rattle.items.specs.State.{lies_in, inside_of}
use Rattle.items.specs.Lies.{Lies}
use Rattle.items.specs.Items.{next_in, next_of}
use Rattle.items.specs.Walked.{Reported, reported, report_of}
use Rattle.items.specs.declared.walk.Rest.{Rest}
use Rattle.items.specs.declared.walk.State.{State}

module _ (s : List ℕ) (n : RecordNumber) where
  pub lies : (o : Option Rest) → lies_in (length s) o ≡ true → IfSome o (Lies (length s))
  unfolding lies_in
  lies None e = tt
  lies (Some l) e = record { order = grind (arith, nat_tests); most = grind (arith, nat_tests) }

  pub passed : (o : Option Rest) → gives tt ≡ inside_of s n o → lies_in (length s) o ≡ true
  unfolding inside_of
  passed o e = (not-second _ _ _ _ (sym e) refused-given).0

  pub lies_inside : (o : Option Rest) → gives tt ≡ inside_of s n o → IfSome o (Lies (length s))
  lies_inside o e = lies o (passed o e)

  -- refused, with the refusal
  pub record Outside (o : Option Rest) (r : Refusal) : Type 0 where
    pub lies : lies_in (length s) o ≡ false
    pub is : refusal BadState n 0 ≡ r

  pub outside_by : (o : Option Rest) (r : Refusal) → refuses r ≡ inside_of s n o → Outside o r
  unfolding inside_of
  outside_by o r e =
      let w = not_first (lies_in (length s) o) (gives tt) (refuses (refusal BadState n 0)) (refuses r) (sym e)
      (λ q. refused-given (sym q)) in
      record { lies = w.0; is = cc }

  module _ (look : RecordNumber → Option (List ℕ)) (w : State) where
    pub next_inside : (x : Reported) → gives tt ≡ inside_of s n w.list → x ≡ report_of (next_in s n look w)
        → x ≡ report_of (next_of s n look w)
    unfolding next_of
    next_inside x e i = i ∙ rw (passed w.list e)

    pub next_outside : (r : Refusal) → refuses r ≡ inside_of s n w.list
        → reported (refuses r) w 0 ≡ report_of (next_of s n look w)
    unfolding next_of report_of
    next_outside r e = let o = outside_by w.list r e in rw o.lies
        (ap (λ (x : Refusal). reported (refuses x) w 0) (sym o.is))

pub ruleset insides = (lies_inside, next_inside, next_outside)
