-- What is read of two inputs is enough for the table that is made of them, and for the reason why there is none.
use Rattle.std.specs.Prelude.{ℕ, ◌≤◌, ◌≡◌, List, ◌++◌, length, eqb, false}
use Rattle.std.specs.Prelude.{option_map, Result, Ok, Err}
use Rattle.std.proofs.Common.{arith, refl, sym, subst, ap, ◌∙◌, ⊎_elim, inl, inr, append-nil, length-append}
use Rattle.std.proofs.lemmas.Bool.Decides.{nat_tests}
use mathlib.Core.Path.{fun_ext}
use Rattle.fields.specs.Answer.{Outcome, gives, refuses}
use Rattle.table.specs.Check.{table_of}
use Rattle.table.specs.Fault.{fault_of}
use Rattle.table.specs.Reach.{reach_of}
use Rattle.table.specs.declared.check.TableHeader.{TableHeader}
use Rattle.table.specs.declared.faults.Fault.{Fault}
use Rattle.table.proofs.Behind.{header_there, table_same, fault_same}
use Rattle.merge.specs.Merge.{Contents, contents, merge_of}
use Rattle.merge.specs.Merge.{table_of_contents}
use Rattle.merge.specs.Rows.{merged}
use Rattle.merge.specs.declared.unmerged.Unmerged.{Unmerged}
use Rattle.merge.specs.declared.unmerged.Unmerged.TheVariants as call
use Rattle.merge.proofs.Fronts.{contents_same, place_same}
use Rattle.merge.proofs.Reports.{report}
use Rattle.command.specs.Flaw.{flaw_told, flaw_of}
use Rattle.command.specs.Asked.{reach_for}
use Rattle.command.specs.Read.{IsEnough}
use Rattle.command.specs.Merging.{failure_of, Joins, Merges}
use Rattle.command.specs.declared.asked.Asked.TheVariants.{Rows}
use Rattle.command.specs.declared.flaw.Flaw.{Flaw}
use Rattle.command.specs.declared.merge_failure.MergeFailure.{MergeFailure}
use Rattle.command.specs.declared.merging.MergedTable.{MergedTable}
use Rattle.command.proofs.Fronts.{file_same}

-- a table that was read as far as its reach, and more of it
module _ (t r : List ℕ) (enough : reach_of t ≤ length t) where
  same_flaw : flaw_of (t ++ r) ≡ flaw_of t
  unfolding flaw_of
  same_flaw =
      let l = header_there t r enough in
      let k = length-append t r in
      let a : eqb (length t) 0 ≡ false = grind (arith, nat_tests) in
      let b : eqb (length (t ++ r)) 0 ≡ false = grind (arith, nat_tests) in
      let f : flaw_told (t ++ r) ≡ flaw_told t =
      fun_ext (λ (x : Fault). rw (a, b, file_same t r enough) refl) in
      ap (λ (told : Fault → Flaw). option_map told (fault_of (t ++ r))) f
      ∙ ap (option_map (flaw_told t)) (fault_same t r enough)

-- the table of two contents
abbrev table_by : Contents → Contents → List ℕ
table_by x y = table_of_contents (record { size = x.size; rows = merged x.rows y.rows })

-- more of the first table
module _ (s r t : List ℕ) (m : ℕ) (enough : reach_of s ≤ length s) where
  first_by : (a : Outcome TableHeader) → table_of s ≡ a → merge_of (s ++ r) t m ≡ merge_of s t m
  unfolding merge_of
  first_by (gives h) e = rw (table_same s r enough, e, contents_same s r enough h e) refl
  first_by (refuses x) e = rw (table_same s r enough, e) refl

  first_failure : (u : Unmerged) → failure_of (s ++ r) t u ≡ failure_of s t u
  unfolding failure_of
  first_failure (call.First x) = rw (same_flaw s r enough) refl
  first_failure (call.Second x) = refl
  first_failure (call.Clash n x) = refl
  first_failure (call.Both x) = rw (table_same s r enough) refl

  first_joins : (result : Result MergedTable MergeFailure) → Joins s t m result → Joins (s ++ r) t m result
  first_joins (Ok made) (answer, table) =
      let k = report s t m made.merged answer in
      let same = contents_same s r enough k.first_header k.first in
      (first_by (table_of s) refl ∙ answer, table ∙ sym (ap (λ (x : Contents). table_by x (contents t)) same))
  first_joins (Err why) (u, answer, told) = (u, first_by (table_of s) refl ∙ answer, first_failure u ∙ told)

-- more of the second
module _ (s t r : List ℕ) (m : ℕ) (enough : reach_of t ≤ length t) where
  second_by : (a b : Outcome TableHeader) → table_of s ≡ a → table_of t ≡ b → merge_of s (t ++ r) m ≡ merge_of s t m
  unfolding merge_of
  second_by (gives g) (gives h) e f =
      rw (e, table_same t r enough, f, contents_same t r enough h f, fun_ext (place_same t r enough h f)) refl
  second_by (gives g) (refuses x) e f = rw (e, table_same t r enough, f) refl
  second_by (refuses x) b e f = rw e refl

  second_failure : (u : Unmerged) → failure_of s (t ++ r) u ≡ failure_of s t u
  unfolding failure_of
  second_failure (call.First x) = refl
  second_failure (call.Second x) = rw (same_flaw t r enough) refl
  second_failure (call.Clash n x) = refl
  second_failure (call.Both x) = rw (table_same t r enough) refl

  second_joins : (result : Result MergedTable MergeFailure) → Joins s t m result → Joins s (t ++ r) m result
  second_joins (Ok made) (answer, table) =
      let k = report s t m made.merged answer in
      let same = contents_same t r enough k.second_header k.second in (
        second_by (table_of s) (table_of t) refl refl ∙ answer,
        table ∙ sym (ap (λ (y : Contents). table_by (contents s) y) same),
      )
  second_joins (Err why) (u, answer, told) =
      (u, second_by (table_of s) (table_of t) refl refl ∙ answer, second_failure u ∙ told)

-- what was read, and the input
whole : (P : List ℕ → Type 0) (front bytes : List ℕ) → ((r : List ℕ) → reach_of front ≤ length front → P (front ++ r))
    → P front → IsEnough Rows front bytes → P bytes
unfolding reach_for
whole P front bytes more here (r, e, o) =
    subst P (sym e)
    (⊎_elim
    (λ l. more r l)
    (λ q. subst P (sym (ap (λ (x : List ℕ). front ++ x) q ∙ append-nil front)) here)
    o)

module _ (result : Result MergedTable MergeFailure) where
  first_merges : (front bytes t : List ℕ) → IsEnough Rows front bytes → Merges front t result → Merges bytes t result
  first_merges front bytes t enough (inl memory) = inl memory
  first_merges front bytes t enough (inr (m, joins)) =
      inr (m, whole (λ s. Joins s t m result) front bytes (λ r l. first_joins front r t m l result joins) joins enough)

  second_merges : (s front bytes : List ℕ) → IsEnough Rows front bytes → Merges s front result → Merges s bytes result
  second_merges s front bytes enough (inl memory) = inl memory
  second_merges s front bytes enough (inr (m, joins)) =
      inr (m, whole (λ t. Joins s t m result) front bytes (λ r l. second_joins s front r m l result joins) joins enough)

  -- what is made of what was read is made of the inputs
  pub merges_both : (ours theirs s t : List ℕ) → IsEnough Rows ours s → IsEnough Rows theirs t
      → Merges ours theirs result → Merges s t result
  merges_both ours theirs s t enough near merges =
      second_merges s theirs t near (first_merges ours s theirs enough merges)
