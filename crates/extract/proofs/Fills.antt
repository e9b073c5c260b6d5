-- A table comes to stand record by record: what the loop that fills it keeps.
use Rattle.std.proofs.Common.{ℕ, ◌+◌, ◌*◌, ◌<◌, ◌≤◌, ◌≡◌, List, [], ◌∷◌, ◌++◌, length}
use Rattle.std.proofs.Common.{refl, sym, ap, ◌∙◌, subst, arith}
use Rattle.std.proofs.Common.{true, add-one, append-nil, length-append}
use Rattle.std.specs.Prelude.{None}
use Rattle.table.specs.Layout.{header_size}
use Rattle.table.specs.Check.{number_end}
use Rattle.table.specs.Held.{Held}
use Rattle.written.specs.Layout.{records_from, table_length, row_bytes}
use Rattle.written.specs.Over.{over}
use Rattle.written.specs.Stands.{Stands}
use Rattle.written.proofs.Pieces.{follow}
use Rattle.extract.specs.Fixup.{Verdict, sound, verdict_of, good_array, fixed_up}
use Rattle.extract.specs.Records.{record_count, record_at, verdict_at, number_at, row_by, rows_below, rows_of}
use Rattle.extract.specs.Judge.{told_verdict}
use Rattle.extract.specs.declared.Extract.{Extract}
use Rattle.extract.specs.declared.fixup.Judged.{Judged}
use Rattle.extract.specs.declared.fixup.Judged.TheVariants as judged
use Rattle.extract.specs.Extracted.{late_in}
use Rattle.extract.proofs.Rows.{rows_more, number_fits}
use Rattle.extract.proofs.Lengths.{sound_is, sound_length}

module _ (x : Extract) (i : ℕ) where
  -- the row of a record that is written
  abbrev pub next_row : Held
  next_row = record { number = number_at x i; bytes = fixed_up (record_at x i) }

  pub sound_row : sound (fixed_up (record_at x i)) ≡ verdict_at x i
      → rows_below x (i + 1) ≡ rows_below x i ++ (next_row ∷ [])
  unfolding rows_below
  sound_row e =
      ap (rows_below x) (add-one i) ∙ ap (λ (v : Verdict). rows_below x i ++ row_by x i v) (sym e)

  -- a record that is not written makes none
  pub other_row : (j : Judged) → (j ≡ judged.Sound → ⊥) → told_verdict (record_at x i) j ≡ verdict_at x i
      → rows_below x (i + 1) ≡ rows_below x i
  unfolding rows_below
  other_row judged.LeftOut n e =
      ap (rows_below x) (add-one i) ∙ ap (λ (v : Verdict). rows_below x i ++ row_by x i v) (sym e)
      ∙ append-nil (rows_below x i)
  other_row (judged.Refused c) n e =
      ap (rows_below x) (add-one i) ∙ ap (λ (v : Verdict). rows_below x i ++ row_by x i v) (sym e)
      ∙ append-nil (rows_below x i)
  other_row judged.Sound n e = absurd (n refl)

  -- the judgement of the record as it lies in the extract
  pub told_at : (raw : List ℕ) (j : Judged) → raw ≡ record_at x i → told_verdict raw j ≡ verdict_of raw
      → told_verdict (record_at x i) j ≡ verdict_at x i
  told_at raw j r e = subst (λ (s : List ℕ). told_verdict s j ≡ verdict_of s) r e

  -- where a record is written there is a row for it, and its number fits
  pub record Next (k : ℕ) : Type 0 where
    pub good : good_array (record_at x i) ≡ true
    pub rows : rows_below x (i + 1) ≡ rows_below x i ++ (next_row ∷ [])
    pub more : length (rows_below x i) < k
    pub number : (number_at x i).0 < number_end
    pub long : length (fixed_up (record_at x i)) ≡ x.size

  pub next : (raw : List ℕ) (j : Judged) (n : ℕ) → raw ≡ record_at x i → told_verdict raw j ≡ verdict_of raw
      → j ≡ judged.Sound → i < n → n ≡ record_count x → late_in header_size (rows_of x) ≡ None
      → Next (length (rows_of x))
  next raw j n r e s l m o =
      let v = sym (ap (told_verdict (record_at x i)) (sym s) ∙ told_at raw j r e) in
      let q = sound_row (sym v) in
      let w = rows_more x (record_count x) (i + 1) (omega arith) in
      let k = length-append (rows_below x i) (next_row ∷ []) in
      let a = ap length q in
      record {
        good = (sound_is _ _ v).good;
        rows = q;
        more = omega arith;
        number = number_fits x header_size (record_count x) i _ (omega arith) v o;
        long = sound_length x i _ (omega arith) v;
      }

  -- a table into which that row and that record were put, the row being number `row`
  abbrev pub next_table : (size k row : ℕ) → List ℕ → List ℕ
  next_table size k row t =
      let at = records_from k + size * row in
      over at (fixed_up (record_at x i)) (over (records_from row) (row_bytes (number_at x i) at) t)

  pub row_stands : (size base k row : ℕ) (old t s : List ℕ) → Next k → x.size ≡ size
      → table_length size k ≤ length old → row ≡ length (rows_below x i) → s ≡ next_table size k row t
      → Stands size base k (rows_below x i) old t → Stands size base k (rows_below x (i + 1)) old s
  row_stands size base k row old t s n z fits r e stands =
      subst (λ (u : List ℕ). Stands size base k (rows_below x (i + 1)) old u)
      (sym (e ∙ ap (λ (j : ℕ). next_table size k j t) r))
      (subst (λ (rs : List Held). Stands size base k rs old (next_table size k (length (rows_below x i)) t))
      (sym n.rows)
      (follow size base k (rows_below x i) next_row old t fits stands n.more (n.long ∙ z)))
