-- What refuses two tables has a reason, unless a buffer is too short.
use Rattle.std.specs.Prelude.{ℕ, ◌≡◌, List, length, Bool, true, false, eqb, leb}
use Rattle.std.specs.Prelude.{Option, Some, None, option_map, IsSome, Result, Ok, Err}
use Rattle.std.proofs.Common.{refl, sym, subst, ap, ◌∙◌}
use Rattle.fields.specs.Pick.{pick}
use Rattle.fields.specs.Answer.{Outcome, gives, refuses, refusal}
use Rattle.fields.specs.declared.Cause.TheVariants.{SizesDiffer, TooManyRows}
use Rattle.fields.specs.declared.RecordNumber.{RecordNumber}
use Rattle.fields.specs.declared.Refusal.{Refusal}
use Rattle.table.specs.Check.{table_of, most_rows}
use Rattle.table.specs.Fault.{fault_of}
use Rattle.table.specs.Laws.{judged}
use Rattle.table.specs.Layout.{numbers_at}
use Rattle.table.specs.declared.check.TableHeader.{TableHeader}
use Rattle.table.specs.declared.faults.Fault.{Fault}
use Rattle.table.proofs.Agree.{faults_agree}
use Rattle.written.specs.Refused.{rows_checked}
use Rattle.merge.specs.Rows.{merged, clash}
use Rattle.merge.specs.Merge.{Contents, contents, tested, sizes_checked, agreed, clashing, joined, place_in, merge_of}
use Rattle.merge.specs.Laws.{reported}
use Rattle.merge.specs.Told.{pair_checked}
use Rattle.merge.specs.declared.Pair.{Pair}
use Rattle.merge.specs.declared.unmerged.Unmerged.{Unmerged}
use Rattle.merge.specs.declared.unmerged.Unmerged.TheVariants.{First, Second, Clash, Both}
use Rattle.command.specs.Flaw.{flaw_of}
use Rattle.command.specs.Merging.{failure_of}
use Rattle.command.specs.declared.merge_failure.Side.TheVariants as side
use Rattle.command.specs.declared.merge_failure.MergeFailure.TheVariants.{NoTable}

abbrev no_number : RecordNumber
no_number = record { 0 = 0 }

abbrev differ : Refusal
differ = refusal SizesDiffer no_number 0

abbrev many : Refusal
many = refusal TooManyRows no_number 0

-- bytes that are refused have a flaw
flaw_by_fault : (t : List ℕ) (r : Refusal) (o : Option Fault) → fault_of t ≡ o
    → ◌≡◌ {A = Outcome TableHeader} (refuses r) (judged (numbers_at t) o) → IsSome (flaw_of t)
unfolding flaw_of
flaw_by_fault t r (Some fault) e q = rw e refl
flaw_by_fault t r None e q = cc

has_flaw : (t : List ℕ) (r : Refusal) → table_of t ≡ refuses r → IsSome (flaw_of t)
has_flaw t r e = flaw_by_fault t r (fault_of t) refl (sym e ∙ faults_agree t)

-- a value that is there is there in another form
there : {A B : Type 0} (f : A → B) (o : Option A) → IsSome o → IsSome (option_map f o)
there f (Some x) i = refl
there f None i = i

-- a test that passes, or refuses
abbrev test : Bool → Refusal → Outcome (Unit {0})
test b r = pick b (gives tt) (refuses r)

abbrev sized : Outcome (Unit {0}) → Result (Unit {0}) Unmerged
sized o = tested Both o λ _. Ok tt

abbrev paired : Outcome TableHeader → Outcome TableHeader → Result (Unit {0}) Unmerged
paired a b = tested First a λ g. tested Second b λ h. sized (sizes_checked g.size h.size)

module _ (s t : List ℕ) where
  abbrev Told : Unmerged → Type 0
  Told u = IsSome (failure_of s t u)

  first_told : (r : Refusal) → IsSome (flaw_of s) → Told (First r)
  unfolding failure_of
  first_told r flaw = there (λ x. NoTable side.First x) (flaw_of s) flaw

  second_told : (r : Refusal) → IsSome (flaw_of t) → Told (Second r)
  unfolding failure_of
  second_told r flaw = there (λ x. NoTable side.Second x) (flaw_of t) flaw

  many_told : Told (Both many)
  unfolding failure_of
  many_told = refl

  clash_told : (n : RecordNumber) (r : Refusal) → Told (Clash n r)
  unfolding failure_of
  clash_told n r = refl

  module _ (g h : TableHeader) (first : table_of s ≡ gives g) (second : table_of t ≡ gives h) where
    differ_told : Told (Both differ)
    unfolding failure_of
    differ_told = rw (first, second) refl

    -- two tables
    joined_by : (u : Unmerged) (b d : Bool) (o : Option RecordNumber) (place : RecordNumber → ℕ) (z : Contents)
        → tested Both (test b differ) (λ _. agreed place o (tested Both (test d many) λ _. Ok z)) ≡ Err u
        → Told u
    joined_by u true true None place z e = cc
    joined_by u true false None place z e = let is : Both many ≡ u = cc in subst Told is many_told
    joined_by u true d (Some n) place z e =
        let is : clashing n (place n) ≡ u = cc in subst Told is (clash_told n _)
    joined_by u false d o place z e = let is : Both differ ≡ u = cc in subst Told is differ_told

    joined_told : (place : RecordNumber → ℕ) (x y : Contents) (u : Unmerged) → joined place x y ≡ Err u → Told u
    unfolding joined sizes_checked rows_checked
    joined_told place x y u e =
        joined_by u (eqb x.size y.size) (leb (length (merged x.rows y.rows)) most_rows) (clash x.rows y.rows) place
        (record { size = x.size; rows = merged x.rows y.rows }) e

    reported_told : (u : Unmerged) (j : Result Contents Unmerged) → joined (place_in t) (contents s) (contents t) ≡ j
        → reported j ≡ Err u → Told u
    reported_told u (Ok z) e q = cc
    reported_told u (Err why) e q = let is : why ≡ u = cc in joined_told (place_in t) (contents s) (contents t) u (e ∙ ap Err is)

    sized_by : (u : Unmerged) (b : Bool) → sized (test b differ) ≡ Err u → Told u
    sized_by u true e = cc
    sized_by u false e = let is : Both differ ≡ u = cc in subst Told is differ_told

    sized_told : (m n : ℕ) (u : Unmerged) → sized (sizes_checked m n) ≡ Err u → Told u
    unfolding sizes_checked
    sized_told m n u e = sized_by u (eqb m n) e

  paired_by : (u : Unmerged) (a b : Outcome TableHeader) → table_of s ≡ a → table_of t ≡ b
      → paired a b ≡ Err u → Told u
  paired_by u (gives g) (gives h) e f q = sized_told g h e f g.size h.size u q
  paired_by u (gives g) (refuses r) e f q =
      let is : Second r ≡ u = cc in subst Told is (second_told r (has_flaw t r f))
  paired_by u (refuses r) b e f q =
      let is : First r ≡ u = cc in subst Told is (first_told r (has_flaw s r e))

  -- what refuses a pair
  pub pair_told : (u : Unmerged) → Err u ≡ pair_checked s t → Told u
  unfolding pair_checked
  pair_told u e = paired_by u (table_of s) (table_of t) refl refl (sym e)

-- what refuses a call, in a buffer that is long enough
pub call_told : (p : Pair) (m : ℕ) (u : Unmerged)
    → merge_of p.first.bytes.now p.second.bytes.now m
    ≡ reported (joined (place_in p.second.bytes.now) (contents p.first.bytes.now) (contents p.second.bytes.now))
    → Err u ≡ merge_of p.first.bytes.now p.second.bytes.now m
    → IsSome (failure_of p.first.bytes.now p.second.bytes.now u)
call_told p m u enough e =
    reported_told p.first.bytes.now p.second.bytes.now p.first.header p.second.header p.first.checked p.second.checked u
    (joined (place_in p.second.bytes.now) (contents p.first.bytes.now) (contents p.second.bytes.now)) refl
    (sym (e ∙ enough))
