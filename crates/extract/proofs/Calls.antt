-- What the whole call answers, test by test, by what was counted.
use Rattle.std.proofs.Common.{ℕ, ◌≤◌, ◌≡◌, length, refl, sym, ap, ◌∙◌, arith}
use Rattle.std.proofs.lemmas.Bool.Decides.{nat_tests}
use Rattle.std.specs.Prelude.{Option, Some, None}
use Rattle.fields.specs.Answer.{Outcome, gives, refuses, refusal, ◌⟫◌}
use Rattle.fields.specs.declared.Cause.TheVariants.{RowNumber}
use Rattle.fields.specs.declared.Refusal.{Refusal}
use Rattle.table.specs.Layout.{header_size}
use Rattle.written.specs.Layout.{table_length}
use Rattle.written.specs.Refused.{rows_checked, room_checked}
use Rattle.extract.specs.Records.{record_count, rows_of}
use Rattle.extract.specs.Extracted.{late_in, refused_late, numbers_checked, report_of, answer_of, extract_of}
use Rattle.extract.specs.Told.{tally_below}
use Rattle.extract.specs.declared.Extract.{Extract}
use Rattle.extract.specs.declared.tally.Extracted.{Extracted}
use Rattle.extract.specs.declared.tally.Tally.{Tally}

-- a buffer that is long enough
pub long_enough : (size k m : ℕ) → gives tt ≡ room_checked size k m → table_length size k ≤ m
unfolding room_checked
long_enough size k m e = grind (arith, nat_tests)

-- a report of what was counted
abbrev pub reported : ℕ → Tally → Outcome Extracted
reported k t = gives (record {
  length = k;
  written = t.written;
  left_out = t.left_out;
  refused = t.refused;
  first_refused = t.first_refused;
})

module _ (x : Extract) (m : ℕ) where
  -- the answer, by what the first two tests say
  abbrev answered : Outcome Unit → Outcome Unit → Outcome Extracted
  answered numbers few =
      (numbers ⟫ λ _. few ⟫ λ _. gives (report_of x)) ⟫ λ r. room_checked x.size r.written m ⟫ λ _. gives r

  by_tests : answered (refused_late (late_in header_size (rows_of x))) (rows_checked (length (rows_of x)))
      ≡ extract_of x m
  unfolding extract_of answer_of numbers_checked
  by_tests = refl

  module _ (t : Tally) (is : t ≡ tally_below x (record_count x)) where
    by_tally : answered (refused_late t.late) (rows_checked t.written) ≡ extract_of x m
    by_tally =
        ap (λ (u : Tally). answered (refused_late u.late) (rows_checked u.written)) is ∙ by_tests

    pub late_refuses : (place : ℕ) → t.late ≡ Some place
        → refuses (refusal RowNumber (record { 0 = 0 }) place) ≡ extract_of x m
    late_refuses place e = sym (ap (λ (o : Option ℕ). answered (refused_late o) (rows_checked t.written)) e) ∙ by_tally

    pub many_refuse : (r : Refusal) → t.late ≡ None → refuses r ≡ rows_checked t.written → refuses r ≡ extract_of x m
    many_refuse r n e =
        ap (answered (gives tt)) e ∙ sym (ap (λ (o : Option ℕ). answered (refused_late o) (rows_checked t.written)) n)
        ∙ by_tally

    few_given : t.late ≡ None → gives tt ≡ rows_checked t.written
        → (room_checked x.size (length (rows_of x)) m ⟫ λ _. gives (report_of x)) ≡ extract_of x m
    few_given n f =
        ap (answered (gives tt)) f ∙ sym (ap (λ (o : Option ℕ). answered (refused_late o) (rows_checked t.written)) n)
        ∙ by_tally

    pub short_refuses : (r : Refusal) → t.late ≡ None → gives tt ≡ rows_checked t.written
        → refuses r ≡ room_checked x.size t.written m → refuses r ≡ extract_of x m
    short_refuses r n f e =
        ap (λ (o : Outcome Unit). o ⟫ λ _. gives (report_of x))
        (e ∙ ap (λ (u : Tally). room_checked x.size u.written m) is) ∙ few_given n f

    pub tests_give : (told_length : ℕ) → t.late ≡ None → gives tt ≡ rows_checked t.written
        → gives tt ≡ room_checked x.size t.written m → told_length ≡ table_length x.size t.written
        → reported told_length t ≡ extract_of x m
    tests_give l n f e h =
        ap (λ (k : ℕ). reported k t) h
        ∙ ap (λ (u : Tally). reported (table_length x.size u.written) u) is
        ∙ ap (λ (o : Outcome Unit). o ⟫ λ _. gives (report_of x))
        (e ∙ ap (λ (u : Tally). room_checked x.size u.written m) is) ∙ few_given n f

-- what these calls go by
pub ruleset called = (late_refuses, many_refuse, short_refuses, tests_give)
