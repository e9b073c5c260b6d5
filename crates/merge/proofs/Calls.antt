-- What the whole call answers, test by test.
use Rattle.std.proofs.Common.{ℕ, ◌≤◌, ◌≡◌, List, length, refl, sym, ap, ◌∙◌, arith}
use Rattle.std.proofs.lemmas.Bool.Decides.{nat_tests}
use Rattle.std.specs.Prelude.{Option, Some, None, Result, Ok, Err}
use Rattle.fields.specs.Answer.{Outcome, gives, refuses}
use Rattle.fields.specs.declared.RecordNumber.{RecordNumber}
use Rattle.fields.specs.declared.Refusal.{Refusal}
use Rattle.fields.proofs.Cases.{eq-y}
use Rattle.table.specs.Check.{table_of}
use Rattle.table.specs.Held.{held_of}
use Rattle.table.specs.Layout.{numbers_at}
use Rattle.table.specs.declared.check.TableHeader.{TableHeader}
use Rattle.table.proofs.Sound.{sound}
use Rattle.written.specs.Layout.{table_length}
use Rattle.written.specs.Refused.{rows_checked, room_checked}
use Rattle.merge.specs.Rows.{clash}
use Rattle.merge.specs.Merge.{Contents, contents, tested, sizes_checked, agreed, joined, place_in, fitted}
use Rattle.merge.specs.Merge.{merge_of, rows_of}
use Rattle.merge.specs.Told.{pair_checked}
use Rattle.merge.specs.Pass.{judged_of, rows_of_pair}
use Rattle.merge.specs.declared.Merged.{Merged}
use Rattle.merge.specs.declared.Pair.{Pair}
use Rattle.merge.specs.declared.unmerged.Unmerged.{Unmerged}
use Rattle.merge.specs.declared.unmerged.Unmerged.TheVariants.{First, Second, Both}

-- a buffer that is long enough
pub long_enough : (size k m : ℕ) → gives tt ≡ room_checked size k m → table_length size k ≤ m
unfolding room_checked
long_enough size k m e = grind (arith, nat_tests)

same_sizes : (m n : ℕ) → m ≡ n → gives tt ≡ sizes_checked m n
unfolding sizes_checked
same_sizes m n e = eq-y _ _ _ _ e refl

module _ (p : Pair) (m : ℕ) where
  abbrev s : List ℕ
  s = p.first.bytes.now

  abbrev t : List ℕ
  t = p.second.bytes.now

  abbrev size : ℕ
  size = p.first.header.size

  abbrev found : Option RecordNumber
  found = clash (held_of s) (held_of t)

  -- the table, and the answer by what the tests say
  abbrev both : ℕ → Contents
  both n = record { size = n; rows = rows_of s t }

  abbrev behind : ℕ → Option RecordNumber → Outcome Unit → Result Merged Unmerged
  behind n o few = fitted m (agreed (place_in t) o (tested Both few λ _. Ok (both n)))

  abbrev by_sizes : Outcome Unit → Result Merged Unmerged
  by_sizes o =
      fitted m (tested Both o λ _. agreed (place_in t) found
      (tested Both (rows_checked (length (rows_of s t))) λ _. Ok (both (numbers_at s).size)))

  abbrev by_tables : Outcome TableHeader → Outcome TableHeader → Result Merged Unmerged
  by_tables a b = tested First a λ _. tested Second b λ _. fitted m (joined (place_in t) (contents s) (contents t))

  first_is : numbers_at s ≡ p.first.header
  first_is = sym (sound s p.first.header p.first.checked).head.is

  second_is : numbers_at t ≡ p.second.header
  second_is = sym (sound t p.second.header p.second.checked).head.is

  sizes_agree : (numbers_at s).size ≡ (numbers_at t).size
  sizes_agree =
      ap (λ (h : TableHeader). h.size) first_is ∙ p.sized ∙ sym (ap (λ (h : TableHeader). h.size) second_is)

  -- two tables that passed their checks: what they hold decides
  pub opened : fitted m (joined (place_in t) (contents s) (contents t)) ≡ merge_of s t m
  unfolding merge_of
  opened =
      ap (by_tables (gives p.first.header)) (sym p.second.checked)
      ∙ ap (λ (o : Outcome TableHeader). by_tables o (table_of t)) (sym p.first.checked)

  -- and of one record size: 33 is next
  by_tests : behind size found (rows_checked (length (rows_of s t))) ≡ merge_of s t m
  unfolding joined
  by_tests =
      ap (λ (n : ℕ). behind n found (rows_checked (length (rows_of s t))))
      (sym (ap (λ (h : TableHeader). h.size) first_is))
      ∙ ap by_sizes (same_sizes _ _ sizes_agree) ∙ opened

  refused_by : (o : Option RecordNumber) (few : Outcome Unit) (why : Unmerged) (k : ℕ)
      → Err why ≡ agreed (place_in t) o (Ok k) → Err why ≡ behind size o few
  refused_by None few why k e = cc
  refused_by (Some n) few why k e = cc

  none_by : (o : Option RecordNumber) (k n : ℕ) → Ok k ≡ agreed (place_in t) o (Ok n) → (o ≡ None) × (k ≡ n)
  none_by None k n e = (refl, cc)
  none_by (Some f) k n e = cc

  agrees : (k : ℕ) → Ok k ≡ judged_of p → (found ≡ None) × (k ≡ length (rows_of_pair p))
  agrees k e = none_by found k (length (rows_of_pair p)) e

  pub counted : (k : ℕ) → Ok k ≡ judged_of p → k ≡ length (rows_of_pair p)
  counted k e = (agrees k e).1

  abbrev given : Outcome Unit → Result Merged Unmerged
  given few = fitted m (tested Both few λ _. Ok (both size))

  by_count : (k : ℕ) → Ok k ≡ judged_of p → given (rows_checked k) ≡ merge_of s t m
  by_count k e =
      ap (λ (n : ℕ). given (rows_checked n)) (counted k e)
      ∙ ap (λ (o : Option RecordNumber). behind size o (rows_checked (length (rows_of s t)))) (sym (agrees k e).0)
      ∙ by_tests

  pub clash_refuses : (why : Unmerged) → Err why ≡ judged_of p → Err why ≡ merge_of s t m
  clash_refuses why e =
      refused_by found (rows_checked (length (rows_of s t))) why (length (rows_of_pair p)) e ∙ by_tests

  pub many_refuse : (k : ℕ) (r : Refusal) → Ok k ≡ judged_of p → refuses r ≡ rows_checked k
      → Err (Both r) ≡ merge_of s t m
  many_refuse k r e f = ap given f ∙ by_count k e

  abbrev reported : ℕ → Outcome Unit → Result Merged Unmerged
  reported k room = tested Both room λ _. Ok (record { length = table_length size k; written = k })

  few_given : (k : ℕ) → Ok k ≡ judged_of p → gives tt ≡ rows_checked k
      → reported k (room_checked size k m) ≡ merge_of s t m
  few_given k e f =
      ap (λ (n : ℕ). reported n (room_checked size n m)) (counted k e) ∙ ap given f ∙ by_count k e

  pub short_refuses : (k : ℕ) (r : Refusal) → Ok k ≡ judged_of p → gives tt ≡ rows_checked k
      → refuses r ≡ room_checked size k m → Err (Both r) ≡ merge_of s t m
  short_refuses k r e f g = ap (reported k) g ∙ few_given k e f

  pub tests_give : (k l : ℕ) → Ok k ≡ judged_of p → gives tt ≡ rows_checked k
      → gives tt ≡ room_checked size k m → l ≡ table_length size k
      → Ok (record { length = l; written = k }) ≡ merge_of s t m
  tests_give k l e f g h =
      ap (λ (n : ℕ). Ok (record { length = n; written = k })) h ∙ ap (reported k) g ∙ few_given k e f

-- what these calls go by
pub ruleset called = (clash_refuses, many_refuse, short_refuses, tests_give)

-- what refuses a pair refuses the call
module _ (s t : List ℕ) (m : ℕ) (why : Unmerged) where
  abbrev next : Result Merged Unmerged
  next = fitted m (joined (place_in t) (contents s) (contents t))

  abbrev sized : Outcome Unit → Result Unit Unmerged
  sized o = tested Both o λ _. Ok tt

  abbrev paired : Outcome TableHeader → Outcome TableHeader → Result Unit Unmerged
  paired a b = tested First a λ g. tested Second b λ h. sized (sizes_checked g.size h.size)

  sizes_refuse : (c : Outcome Unit) → sizes_checked (numbers_at s).size (numbers_at t).size ≡ c
      → Err why ≡ sized c → Err why ≡ next
  unfolding joined
  sizes_refuse (gives u) e q = cc
  sizes_refuse (refuses r) e q =
      let f : Err why ≡ Err (Both r) = cc in
      f ∙ sym (ap (λ (o : Outcome Unit). fitted m (tested Both o λ _.
      agreed (place_in t) (clash (held_of s) (held_of t))
      (tested Both (rows_checked (length (rows_of s t))) λ _.
      Ok (record { size = (numbers_at s).size; rows = rows_of s t })))) e)

  by_outcomes : (a b : Outcome TableHeader) → table_of s ≡ a → table_of t ≡ b
      → Err why ≡ paired a b
      → Err why ≡ tested First a (λ _. tested Second b λ _. next)
  by_outcomes (refuses r) b e f q = cc
  by_outcomes (gives g) (refuses r) e f q = cc
  by_outcomes (gives g) (gives h) e f q =
      let i = (sound s g e).head.is in let j = (sound t h f).head.is in
      sizes_refuse (sizes_checked g.size h.size)
      (ap (λ (x : TableHeader). sizes_checked x.size (numbers_at t).size) (sym i)
      ∙ ap (λ (x : TableHeader). sizes_checked g.size x.size) (sym j)) q

  pub pair_refuses : Err why ≡ pair_checked s t → Err why ≡ merge_of s t m
  unfolding pair_checked merge_of
  pair_refuses q = by_outcomes (table_of s) (table_of t) refl refl q
