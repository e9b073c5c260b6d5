use Rattle.std.proofs.Common.{ℕ, ◌≡◌, List, length, refl, sym, ap, ◌∙◌, arith, length-append}
use Rattle.std.specs.Prelude.{Option, Some, None, Ok}
use Rattle.std.specs.Option.{option_or}
use Rattle.fields.specs.Answer.{gives}
use Rattle.fields.specs.declared.RecordNumber.{RecordNumber}
use Rattle.fields.proofs.Cases.{eq-y}
use Rattle.table.specs.Check.{table_of}
use Rattle.table.specs.Layout.{numbers_at}
use Rattle.table.specs.Held.{Held, held_of, record_in, record_of, base_row}
use Rattle.table.proofs.Holds.{base-none}
use Rattle.table.proofs.Sound.{sound}
use Rattle.written.specs.Laws.{numbers_of}
use Rattle.written.proofs.Tables.{table_passes, table_holds, table_long}
use Rattle.merge.specs.Merge.{merge_of, rows_of, table_of_merge}
use Rattle.merge.specs.Laws.{table_by}
use Rattle.merge.specs.declared.Merged.{Merged}
use Rattle.merge.proofs.Finds.{record_merged}
use Rattle.merge.proofs.Agrees.{agreed}
use Rattle.merge.proofs.Reports.{Reported, report, fit, written_is, length_is}
use Rattle.merge.proofs.laws.merged_tables_hold_both.Goals as goal

no_base : (n : ℕ) (size : ℕ) → base_row (numbers_of size n n) ≡ None
unfolding base_row
no_base n size = sym (eq-y n n None (Some n) refl refl)

module _ (s t : List ℕ) (m : ℕ) (r : Merged) (rest : List ℕ) (e : merge_of s t m ≡ Ok r) where
  abbrev size : ℕ
  size = (numbers_at s).size

  abbrev k : ℕ
  k = length (rows_of s t)

  known : Reported s t r
  known = report s t m r e

  passes : table_of (table_by s t rest) ≡ gives (numbers_of size k k)
  passes = table_passes size k (rows_of s t) rest (fit s t r known)

  holds : held_of (table_by s t rest) ≡ rows_of s t
  holds = table_holds size k (rows_of s t) rest (fit s t r known)

  found : (n : RecordNumber)
      → record_of (table_by s t rest) n ≡ option_or (record_in (held_of s) n) (record_in (held_of t) n)
  unfolding record_of
  found n = ap (λ (rows : List Held). record_in rows n) holds ∙ record_merged (held_of s) (held_of t) n

  -- what the second has is what the first has, or the first has nothing
  second_is : (n : RecordNumber) (b : List ℕ) (o p : Option (List ℕ)) → record_in (held_of s) n ≡ o
      → record_in (held_of t) n ≡ p → p ≡ Some b → option_or o p ≡ Some b
  second_is n b None p f g h = h
  second_is n b (Some a) p f g h =
      ap Some (agreed (held_of s) (held_of t) known.joins.none n a b f (g ∙ h))

pub returns-clause-pass : goal.returns-clause-pass
returns-clause-pass c = λ s t m r rest e.
    let k = known s t m r rest e in (
      passes s t m r rest e ∙ ap (λ (n : ℕ). gives (numbers_of (numbers_at s).size n n)) (written_is s t r k),
      holds s t m r rest e,
      base-none (sound (table_by s t rest) _ (passes s t m r rest e))
          (no_base (length (rows_of s t)) (numbers_at s).size),
    )

pub returns-clause-found : goal.returns-clause-found
unfolding record_of
returns-clause-found c = λ s t m r rest e n. found s t m r rest e n

pub returns-clause-lost : goal.returns-clause-lost
unfolding record_of
returns-clause-lost c = λ s t m r rest e n b. (
  (λ h. found s t m r rest e n
      ∙ ap (λ (o : Option (List ℕ)). option_or o (record_in (held_of t) n)) h),
  (λ h. found s t m r rest e n
      ∙ second_is s t m r rest e n b (record_in (held_of s) n) (record_in (held_of t) n) refl refl h),
)

pub returns-clause-lengths : goal.returns-clause-lengths
returns-clause-lengths c = λ s t m r rest e.
    let k = known s t m r rest e in
    let a = length-append (table_of_merge s t) rest in
    let b = table_long (numbers_at s).size (length (rows_of s t)) (rows_of s t) (fit s t r k).long in
    let d = length_is s t r k in
    omega arith
