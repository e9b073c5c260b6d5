-- What an extract's call writes, where it gives a report, are rows that a table may have.
use Rattle.std.proofs.Common.{ℕ, zero, suc, ◌+◌, ◌*◌, ◌%◌, ◌<◌, ◌≤◌, ◌≡◌, refl, ap, ◌∙◌, arith}
use Rattle.std.proofs.Common.{true, List, [], ◌∷◌, ◌++◌, length, All}
use Rattle.std.proofs.lemmas.List.Elements.{All-nil, All-cons, All-head, All-tail, All-append, All-weaker}
use Rattle.std.proofs.lemmas.Bool.Decides.{nat_tests}
use Rattle.std.specs.Prelude.{Option, Some, None}
use Rattle.fields.specs.Answer.{gives}
use Rattle.fields.specs.Length.{good_length}
use Rattle.fields.proofs.Answers.{refused-given, the-given, back}
use Rattle.table.specs.Layout.{header_size, row_size}
use Rattle.table.specs.Check.{most_rows}
use Rattle.table.specs.Held.{Held}
use Rattle.written.specs.Refused.{rows_checked, room_checked}
use Rattle.written.specs.Laws.{Rising, Fit}
use Rattle.extract.specs.Size.{good_size, whole_records}
use Rattle.extract.specs.Fixup.{Verdict, left_out, refused, sound}
use Rattle.extract.specs.Records.{record_count, verdict_at, number_at, row_by, rows_below, rows_of}
use Rattle.extract.specs.Base.{base_in}
use Rattle.extract.specs.Extracted.{late_in, refused_late, numbers_checked, report_of, answer_of, extract_of}
use Rattle.extract.specs.declared.Extract.{Extract}
use Rattle.extract.specs.declared.tally.Extracted.{Extracted}
use Rattle.extract.proofs.Rows.{none_late, row_fits}
use Rattle.extract.proofs.Risen.{numbers_rise}
use Rattle.extract.proofs.Bases.{base_few}
use Rattle.extract.proofs.Lengths.{sound_length}

-- rows that rise from further on
rising_from : (least m : ℕ) (rows : List Held) → least ≤ m → Rising m rows → Rising least rows
rising_from least m [] l h = tt
rising_from least m (r ∷ rs) l h = let a = h.0 in (omega arith, h.1, h.2)

-- rows that rise behind others
rising_append : (least m : ℕ) (xs ys : List Held) → Rising least xs → All (λ r. r.number.0 < m) xs → least ≤ m
    → Rising m ys → Rising least (xs ++ ys)
rising_append least m [] ys h b l k = rising_from least m ys l k
rising_append least m (r ∷ rs) ys h b l k =
    let a = All-head (λ (x : Held). x.number.0 < m) r rs b in
    let c = All-tail (λ (x : Held). x.number.0 < m) r rs b in
    (h.0, h.1, rising_append (suc r.number.0) m rs ys h.2 c a k)

good_sized : (size : ℕ) (s : List ℕ) → whole_records size s ≡ true → good_length size ≡ true
unfolding whole_records good_size good_length
good_sized size s e =
    let l : 512 ≤ size = grind (arith, nat_tests) in
    let m : size ≤ 4096 = grind (arith, nat_tests) in
    let w : size % 512 ≡ 0 = grind (arith, nat_tests) in
    let z : size % 8 ≡ 0 = omega arith in
    grind (arith, nat_tests)

module _ (x : Extract) where
  -- a record's row has its number
  abbrev pub NumberedAt : ℕ → Held → Type 0
  NumberedAt i r = r.number.0 ≡ (number_at x i).0

  pub row_numbered : (i : ℕ) (v : Verdict) → All (NumberedAt i) (row_by x i v)
  row_numbered i left_out = All-nil (NumberedAt i)
  row_numbered i (refused c) = All-nil (NumberedAt i)
  row_numbered i (sound b) =
      All-cons (NumberedAt i) (record { number = number_at x i; bytes = b }) [] refl (All-nil (NumberedAt i))

  -- and each row below a position that of a record in front of it
  abbrev pub NumberedBelow : ℕ → Held → Type 0
  NumberedBelow n r = (i : ℕ) × (i < n) × (r.number.0 ≡ (number_at x i).0)

  pub rows_numbered : (n : ℕ) → All (NumberedBelow n) (rows_below x n)
  unfolding rows_below
  rows_numbered zero = All-nil (NumberedBelow zero)
  rows_numbered (suc i) =
      let v = verdict_at x i in
      All-append (NumberedBelow (suc i)) (rows_below x i) (row_by x i v)
      (All-weaker (NumberedBelow i) (NumberedBelow (suc i))
      (λ r h. let l : h.0 < suc i = omega (arith, h.1) in (h.0, l, h.2))
      (rows_below x i) (rows_numbered i))
      (All-weaker (NumberedAt i) (NumberedBelow (suc i)) (λ r h. (i, omega arith, h)) (row_by x i v)
      (row_numbered i v))

  -- and is as long as the record size
  abbrev pub Long : Held → Type 0
  Long r = length r.bytes ≡ x.size

  row_long : (i : ℕ) (v : Verdict) → i < record_count x → verdict_at x i ≡ v → All Long (row_by x i v)
  row_long i left_out l e = All-nil Long
  row_long i (refused c) l e = All-nil Long
  row_long i (sound b) l e =
      All-cons Long (record { number = number_at x i; bytes = b }) [] (sound_length x i b l e) (All-nil Long)

  pub rows_long : (n : ℕ) → n ≤ record_count x → All Long (rows_below x n)
  unfolding rows_below
  rows_long zero l = All-nil Long
  rows_long (suc i) l =
      let v = verdict_at x i in
      All-append Long (rows_below x i) (row_by x i v) (rows_long i (omega arith)) (row_long i v l refl)

  -- where no number is too large, the rows rise
  row_rises : (at i : ℕ) (v : Verdict) → late_in at (row_by x i v) ≡ None → Rising (number_at x i).0 (row_by x i v)
  row_rises at i left_out e = tt
  row_rises at i (refused c) e = tt
  row_rises at i (sound b) e = (omega arith, row_fits at _ [] e, tt)

  below : (i : ℕ) → i < record_count x → (r : Held) → NumberedBelow i r → r.number.0 < (number_at x i).0
  below i l r h = omega (arith, h.2, numbers_rise x h.0 i h.1 l)

  pub rows_rise : (at n : ℕ) → n ≤ record_count x → late_in at (rows_below x n) ≡ None → Rising 0 (rows_below x n)
  unfolding rows_below
  rows_rise at zero l e = tt
  rows_rise at (suc i) l e =
      let v = verdict_at x i in
      let f = none_late at (rows_below x i) (row_by x i v) e in
      rising_append 0 (number_at x i).0 (rows_below x i) (row_by x i v)
      (rows_rise at i (omega arith) f.0)
      (All-weaker (NumberedBelow i) (λ r. r.number.0 < (number_at x i).0) (below i l) (rows_below x i)
      (rows_numbered i))
      (omega arith)
      (row_rises (at + row_size * length (rows_below x i)) i v f.1)

none_refused : (o : Option ℕ) {u : Unit {0}} → refused_late o ≡ gives u → o ≡ None
none_refused None e = refl
none_refused (Some place) e = absurd (refused-given e)

few_checked : (k : ℕ) {u : Unit {0}} → rows_checked k ≡ gives u → k ≤ most_rows
unfolding rows_checked
few_checked k e = grind (arith, nat_tests)

-- a call that gives a report
pub record Reported (x : Extract) (r : Extracted) : Type 0 where
  pub late : late_in header_size (rows_of x) ≡ None
  pub few : length (rows_of x) ≤ most_rows
  pub is : report_of x ≡ r

pub answered : (x : Extract) (r : Extracted) → answer_of x ≡ gives r → Reported x r
unfolding answer_of numbers_checked
answered x r e =
    let a = back (refused_late (late_in header_size (rows_of x))) _ r e in
    let b = back (rows_checked (length (rows_of x))) _ r a.next in
    record {
      late = none_refused _ a.gave;
      few = few_checked _ b.gave;
      is = the-given b.next;
    }

pub reported : (x : Extract) (m : ℕ) (r : Extracted) → extract_of x m ≡ gives r → Reported x r
unfolding extract_of
reported x m r e =
    let a = back (answer_of x) _ r e in
    let b = back (room_checked x.size a.first.written m) _ r a.next in
    let q : a.first ≡ r = the-given b.next in
    answered x r (a.gave ∙ ap gives q)

pub fit : (x : Extract) (r : Extracted) → Reported x r → Fit x.size (base_in x.base (rows_of x)) (rows_of x)
fit x r s = record {
  good = good_sized x.size x.bytes.now x.checked;
  long = rows_long x (record_count x) (omega arith);
  few = s.few;
  rising = rows_rise x header_size (record_count x) (omega arith) s.late;
  based = base_few x.base (rows_of x);
}
