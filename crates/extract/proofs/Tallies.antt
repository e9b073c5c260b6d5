-- What is counted over the records in front of a position, and over one more.
use Rattle.std.proofs.Common.{ℕ, zero, suc, ◌+◌, ◌*◌, ◌≤◌, ◌≡◌, List, [], ◌++◌, length, arith, refl, sym, ap, ◌∙◌}
use Rattle.std.proofs.Common.{true, false, min, subst, append-nil, length-append, add-one}
use Rattle.std.specs.Prelude.{Option, Some, None}
use Rattle.std.specs.Option.{option_or}
use Rattle.fields.specs.declared.Cause.{Cause}
use Rattle.table.specs.Layout.{header_size, row_size}
use Rattle.extract.specs.Fixup.{Verdict, left_out, refused, sound}
use Rattle.extract.specs.Records.{record_count, verdict_at, row_by, left_by, refused_by, told_by, rows_below}
use Rattle.extract.specs.Records.{left_below, refused_below, first_refused_below, rows_of}
use Rattle.extract.specs.Extracted.{late_in}
use Rattle.extract.specs.Base.{base_in}
use Rattle.extract.specs.Told.{late_by, is_base_at, tally_below}
use Rattle.extract.specs.declared.Extract.{Extract}
use Rattle.extract.specs.declared.tally.Tally.{Tally}
use Rattle.extract.proofs.Rows.{late_append}
use Rattle.extract.proofs.Bases.{base_few, base_stays, base_goes}

-- no more is counted than there are records
pub record Few (x : Extract) (i : ℕ) : Type 0 where
  pub rows : length (rows_below x i) ≤ i
  pub left : left_below x i ≤ i
  pub refused : refused_below x i ≤ i

row_few : (x : Extract) (i : ℕ) (v : Verdict) → length (row_by x i v) ≤ 1
row_few x i left_out = omega arith
row_few x i (refused c) = omega arith
row_few x i (sound b) = omega arith

left_few : (v : Verdict) → left_by v ≤ 1
left_few left_out = omega arith
left_few (refused c) = omega arith
left_few (sound b) = omega arith

refused_few : (v : Verdict) → refused_by v ≤ 1
refused_few left_out = omega arith
refused_few (refused c) = omega arith
refused_few (sound b) = omega arith

pub few : (x : Extract) (i : ℕ) → Few x i
unfolding rows_below left_below refused_below
few x zero = record { rows = omega arith; left = omega arith; refused = omega arith }
few x (suc i) =
    let h = few x i in let v = verdict_at x i in
    record {
      rows = omega (arith, h.rows, length-append (rows_below x i) (row_by x i v), row_few x i v);
      left = omega (arith, h.left, left_few v);
      refused = omega (arith, h.refused, refused_few v);
    }

-- what is counted behind a record that has this verdict
abbrev pub counted : Extract → ℕ → Verdict → Tally
counted x i v = record {
  written = length (rows_below x i ++ row_by x i v);
  left_out = left_below x i + left_by v;
  refused = refused_below x i + refused_by v;
  first_refused = option_or (first_refused_below x i) (told_by x i v);
  late = late_in header_size (rows_below x i ++ row_by x i v);
  base = base_in x.base (rows_below x i ++ row_by x i v);
}

one_more : (x : Extract) (i : ℕ) (v : Verdict) → v ≡ verdict_at x i → counted x i v ≡ tally_below x (i + 1)
unfolding rows_below left_below refused_below first_refused_below
one_more x i v e = ap (counted x i) e ∙ ap (tally_below x) (sym (add-one i))

or_none : {A : Type 0} (o : Option A) → o ≡ option_or o None
or_none None = refl
or_none (Some a) = refl

-- a record that makes no row
no_row : (x : Extract) (i : ℕ) → rows_below x i ≡ rows_below x i ++ []
no_row x i = sym (append-nil (rows_below x i))

none_more : (n : ℕ) → n ≡ n + 0
none_more n = omega arith

-- behind a record that is left out
pub left_more : (x : Extract) (i : ℕ) (t : Tally) → left_out ≡ verdict_at x i → t ≡ tally_below x i
    → record t { left_out = t.left_out + 1 } ≡ tally_below x (i + 1)
left_more x i t v e =
    let f : Tally → Tally = λ u. record u { left_out = u.left_out + 1 } in
    let r = no_row x i in let n = none_more (refused_below x i) in let o = or_none (first_refused_below x i) in
    let m : f (tally_below x i) ≡ counted x i left_out = cc in
    ap f e ∙ m ∙ one_more x i left_out v

-- behind one that is refused
pub refused_more : (x : Extract) (i : ℕ) (c : Cause) (t : Tally) → refused c ≡ verdict_at x i → t ≡ tally_below x i
    → record t { refused = t.refused + 1; first_refused = option_or t.first_refused (told_by x i (refused c)) }
    ≡ tally_below x (i + 1)
refused_more x i c t v e =
    let f : Tally → Tally =
    λ u. record u {
      refused = u.refused + 1;
      first_refused = option_or u.first_refused (told_by x i (refused c));
    } in
    let r = no_row x i in let n = none_more (left_below x i) in
    let m : f (tally_below x i) ≡ counted x i (refused c) = cc in
    ap f e ∙ m ∙ one_more x i (refused c) v

late_one : (x : Extract) (i : ℕ) (b : List ℕ) (at : ℕ) → late_in at (row_by x i (sound b)) ≡ late_by x i at
unfolding late_in
late_one x i b at = refl

-- behind one that is written, by what is the base row then
pub sound_more : (x : Extract) (i : ℕ) (b : List ℕ) (t : Tally) (base : ℕ) → sound b ≡ verdict_at x i
    → t ≡ tally_below x i → base ≡ base_in x.base (rows_below x i ++ row_by x i (sound b))
    → record t {
      written = t.written + 1;
      late = option_or t.late (late_by x i (header_size + row_size * t.written));
      base = base;
    } ≡ tally_below x (i + 1)
sound_more x i b t base v e g =
    let f : Tally → Tally =
    λ u. record u {
      written = u.written + 1;
      late = option_or u.late (late_by x i (header_size + row_size * u.written));
      base = base;
    } in
    let rs = rows_below x i in let at = header_size + row_size * length rs in
    let k : length rs + 1 ≡ length (rs ++ row_by x i (sound b)) =
    omega (arith, length-append rs (row_by x i (sound b))) in
    let a = none_more (left_below x i) in let n = none_more (refused_below x i) in
    let l = ap (option_or (late_in header_size rs)) (sym (late_one x i b at))
    ∙ sym (late_append header_size rs (row_by x i (sound b))) in
    let o = or_none (first_refused_below x i) in
    let m : f (tally_below x i) ≡ counted x i (sound b) = cc in
    ap f e ∙ m ∙ one_more x i (sound b) v

-- the base row then
pub base_written : (x : Extract) (i : ℕ) (t : Tally) → t ≡ tally_below x i → t.base ≤ t.written
base_written x i t e =
    subst (λ (u : Tally). u.base ≤ u.written) (sym e) (base_few x.base (rows_below x i))

pub base_kept : (x : Extract) (i : ℕ) (b : List ℕ) (t : Tally) → t ≡ tally_below x i
    → (t.base ≡ t.written → is_base_at x i ≡ true) → t.base ≡ base_in x.base (rows_below x i ++ row_by x i (sound b))
base_kept x i b t e h =
    subst (λ (u : Tally). (u.base ≡ u.written → is_base_at x i ≡ true)
    → u.base ≡ base_in x.base (rows_below x i ++ row_by x i (sound b)))
    (sym e) (λ g. sym (base_stays x.base (rows_below x i) _ g)) h

pub base_on : (x : Extract) (i : ℕ) (b : List ℕ) (t : Tally) → t ≡ tally_below x i → t.base ≡ t.written
    → is_base_at x i ≡ false → t.base + 1 ≡ base_in x.base (rows_below x i ++ row_by x i (sound b))
base_on x i b t e h =
    subst (λ (u : Tally). u.base ≡ u.written → is_base_at x i ≡ false
    → u.base + 1 ≡ base_in x.base (rows_below x i ++ row_by x i (sound b)))
    (sym e) (λ g k. sym (base_goes x.base (rows_below x i) _ g k)) h

-- the base row of a table of as many rows as were counted
pub base_asked : (x : Extract) (t : Tally) (k base : ℕ) → t ≡ tally_below x (record_count x) → k ≡ t.written
    → base ≡ min t.base k → base ≡ base_in x.base (rows_of x)
base_asked x t k base e w b =
    let l = base_written x (record_count x) t e in
    let m : base ≡ t.base = omega arith in
    m ∙ ap (λ (u : Tally). u.base) e
