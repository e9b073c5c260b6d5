-- What was fetched for a record makes a table.
use Rattle.std.specs.Prelude.{ℕ, zero, suc, ◌+◌, ◌*◌, ◌<◌, ◌≤◌, ◌≡◌, List, [], ◌∷◌, ◌++◌, length, get_or}
use Rattle.std.specs.Prelude.{true, All, Option, Some, None}
use Rattle.std.proofs.Common.{refl, sym, ap, subst, ◌∙◌, length-append, arith}
use Rattle.std.proofs.Math.Nat.{mul-div_cancel_left, mul-mod_right, mul-le-mul_left}
use Rattle.std.proofs.lemmas.Bool.{lt-ltb, le-leb, eq-eqb}
use Rattle.std.proofs.lemmas.List.{length-map}
use Rattle.std.proofs.lemmas.List.Elements.{All-nil, All-cons, All-append, All-head, All-tail, All-weaker, All-get_or}
use Rattle.fields.specs.Answer.{Outcome, gives, refuses}
use Rattle.fields.specs.declared.RecordNumber.{RecordNumber}
use Rattle.table.specs.Layout.{header_size, row_size}
use Rattle.table.specs.Check.{most_rows, number_end}
use Rattle.table.specs.Held.{Held}
use Rattle.record.specs.Open.{Lent, open_of}
use Rattle.record.proofs.Opened.{most}
use Rattle.written.specs.Layout.{table_length}
use Rattle.written.specs.Refused.{rows_checked, room_checked}
use Rattle.extract.specs.Extracted.{late_in, numbers_checked, answer_of, extract_of, report_of}
use Rattle.extract.specs.Laws.{RisesTo, RisingIsAccepted}
use Rattle.extract.specs.Numbers.{listed_at}
use Rattle.extract.specs.Records.{record_count, rows_of}
use Rattle.extract.specs.Size.{good_size, whole_records, sizes_checked, one_number_each, chosen_checked}
use Rattle.extract.specs.declared.Extract.{Extract}
use Rattle.extract.proofs.Fits.{NumberedBelow, rows_numbered}
use Rattle.extract.proofs.Lengths.{sound_is}
use Rattle.extract.proofs.Tallies.{few}
use Rattle.references.specs.References.{references_of}
use Rattle.references.specs.Rising.{sorted}
use Rattle.references.specs.Laws.{Rises, SortedRise, SortedAreTheSame, ReferencesAreFew}
use Rattle.command.specs.declared.absence.Absence.{Absence}
use Rattle.mft.specs.Gather.{Fetched, referred}
use Rattle.mft.specs.Gathered.{kept_by, numbers_of, raw_of}
use Rattle.mft.specs.Room.{Roomy}
use Rattle.mft.specs.Made.{AreNumbers}
use Rattle.mft.specs.Told.{IsOwn}
use Rattle.mft.specs.declared.layout.Layout.{Layout}
use Rattle.mft.proofs.Absences.{size_above_0, one}
use Rattle.mft.proofs.Rows.{opens_as, numbered_by, numbered_at, all_among, among_all, Long, raw_long, of_all, count_is}
use Rattle.mft.proofs.Rows.{kept_all, all_long, all_rise, wanted}
use Rattle.mft.proofs.Small.{IsByte, IsSmall, bytes_fixed, references_small}

-- numbers that rise
rises_from : (least m : ℕ) (ns : List RecordNumber) → least ≤ m → Rises m ns → Rises least ns
rises_from least m [] l r = tt
rises_from least m (x ∷ xs) l r = let k = r.0 in (omega arith, r.1)

kept_rise : (least : ℕ) (w : Option Absence) (m : RecordNumber) (ns : List RecordNumber) → least ≤ m.0
    → Rises (suc m.0) ns → Rises least (kept_by w (m ∷ []) ++ ns)
kept_rise least None m ns l r = (l, r)
kept_rise least (Some w) m ns l r = rises_from least (suc m.0) ns (omega arith) r

numbers_rise : (least : ℕ) (fs : List Fetched) → Rises least (of_all fs) → Rises least (numbers_of fs)
numbers_rise least [] r = tt
numbers_rise least (f ∷ fs) r =
    kept_rise least f.why f.number (numbers_of fs) r.0 (numbers_rise (suc f.number.0) fs r.1)

first_rises : (least : ℕ) (ns : List RecordNumber) → Rises least ns → 0 < length ns → least ≤ (listed_at ns 0).0
first_rises least [] r l = absurd (omega arith)
first_rises least (x ∷ xs) r l = r.0

rises_to : (least : ℕ) (ns : List RecordNumber) → Rises least ns → RisesTo ns (length ns)
rises_to least [] r i l = absurd (omega arith)
rises_to least (x ∷ xs) r zero l = let k = first_rises (suc x.0) xs r.1 (omega arith) in omega arith
rises_to least (x ∷ xs) r (suc i) l =
    let e : suc i + 1 ≡ suc (i + 1) = omega arith in
    subst (λ (j : ℕ). (listed_at xs i).0 < (listed_at (x ∷ xs) j).0) (sym e)
    (rises_to (suc x.0) xs r.1 i (omega arith))

-- what holds of all holds of those that are kept
numbers_all : (P : RecordNumber → Type 0) (fs : List Fetched) → All P (of_all fs) → All P (numbers_of fs)
numbers_all P [] a = All-nil P
numbers_all P (f ∷ fs) a =
    All-append P (kept_by f.why (f.number ∷ [])) (numbers_of fs)
    (kept_all P f.why f.number (All-head P f.number (of_all fs) a))
    (numbers_all P fs (All-tail P f.number (of_all fs) a))

kept_few : (w : Option Absence) (m : RecordNumber) → length (kept_by w (m ∷ [])) ≤ 1
kept_few None m = omega arith
kept_few (Some w) m = omega arith

numbers_few : (fs : List Fetched) → length (numbers_of fs) ≤ length fs
numbers_few [] = omega arith
numbers_few (f ∷ fs) =
    omega (
      arith,
      length-append (kept_by f.why (f.number ∷ [])) (numbers_of fs),
      kept_few f.why f.number,
      numbers_few fs,
    )

into_order : (P : RecordNumber → Type 0) → SortedAreTheSame → (xs : List RecordNumber) → All P xs → All P (sorted xs)
into_order P same xs a = among_all P (sorted xs) (λ m e. all_among P xs m a (sym (same xs m).0 ∙ e))

-- a record has few references
referred_few : ReferencesAreFew → (b : List ℕ) (n : RecordNumber) (o : Outcome Lent) → open_of b n ≡ o
    → length (referred o) ≤ 157
referred_few refs b n (refuses r) e = omega arith
referred_few refs b n (gives r) e =
    let i = opens_as b n r e in
    let l : length b ≤ 4096 = most b n (sym (e ∙ ap gives i)) in
    let f = refs b n in
    let same : length (referred (gives r)) ≡ length (references_of b n).numbers =
    ap (λ (q : Lent). length (references_of q.bytes q.number).numbers) i in
    omega arith

referred_small : (b : List ℕ) (n : RecordNumber) (o : Outcome Lent) → open_of b n ≡ o → All IsByte b
    → All IsSmall (referred o)
referred_small b n (refuses r) e a = All-nil IsSmall
referred_small b n (gives r) e a =
    subst (λ (q : Lent). All IsSmall (references_of q.bytes q.number).numbers) (sym (opens_as b n r e))
    (references_small b n a)

-- rows with small numbers
none_late : (at : ℕ) (rows : List Held) → All (λ (r : Held). IsSmall r.number) rows → late_in at rows ≡ None
unfolding late_in
none_late at [] a = refl
none_late at (r ∷ rs) a =
    rw (lt-ltb r.number.0 number_end (All-head (λ (r : Held). IsSmall r.number) r rs a))
    (none_late (at + row_size) rs (All-tail (λ (r : Held). IsSmall r.number) r rs a))

answers : (x : Extract) → late_in header_size (rows_of x) ≡ None → length (rows_of x) ≤ most_rows
    → answer_of x ≡ gives (report_of x)
unfolding answer_of numbers_checked rows_checked
answers x l f = rw (l, le-leb (length (rows_of x)) most_rows f) refl

extracts : (x : Extract) (m : ℕ) → answer_of x ≡ gives (report_of x) → table_length x.size (length (rows_of x)) ≤ m
    → extract_of x m ≡ gives (report_of x)
unfolding extract_of room_checked
extracts x m e l = rw (e, le-leb (table_length x.size (length (rows_of x))) m l) refl

room : (size k m : ℕ) → k ≤ 158 → header_size + (row_size + size) * 158 ≤ m → table_length size k ≤ m
room size k m l f = let s : size * k ≤ size * 158 = mul-le-mul_left size l in omega arith

-- each row has one of the records' numbers
row_small : (x : Extract) (ns : List RecordNumber) → record_count x ≡ length ns → AreNumbers x.numbers ns
    → All IsSmall ns → (r : Held) → NumberedBelow x (record_count x) r → IsSmall r.number
row_small x ns count nums a r (i, f, e) =
    let k : i < length ns = rw count at f in
    let s : IsSmall (listed_at ns i) = All-get_or IsSmall ns i (numbered_by 0) k a in
    subst (λ (j : ℕ). j < number_end) (sym (e ∙ ap (λ (m : RecordNumber). m.0) (numbered_at x.numbers ns i nums k))) s

-- as many records as are listed together, with small numbers, are written into a buffer that has room for them
makes_of : (x : Extract) (size : ℕ) (ns : List RecordNumber) → record_count x ≡ length ns → x.size ≡ size
    → AreNumbers x.numbers ns → length ns ≤ 158 → All IsSmall ns → (m : ℕ) → Roomy size m
    → extract_of x m ≡ gives (report_of x)
makes_of x size ns count sized nums most small m fits =
    let late : late_in header_size (rows_of x) ≡ None =
    none_late header_size (rows_of x)
    (All-weaker (NumberedBelow x (record_count x)) (λ (r : Held). IsSmall r.number) (row_small x ns count nums small)
    (rows_of x) (rows_numbered x (record_count x))) in
    let rows : length (rows_of x) ≤ record_count x = (few x (record_count x)).rows in
    let all : length (rows_of x) ≤ 158 = omega (arith, count) in
    let long_enough : table_length x.size (length (rows_of x)) ≤ m =
    subst (λ (s : ℕ). table_length s (length (rows_of x)) ≤ m) (sym sized)
    (room size (length (rows_of x)) m all fits) in
    extracts x m (answers x late (omega arith)) long_enough

-- a record alone
pub alone_makes : (x : Extract) (own : List ℕ) (n : RecordNumber) → good_size (length own) ≡ true
    → x.bytes.now ≡ own → x.size ≡ length own → AreNumbers x.numbers (n ∷ []) → n.0 < number_end → (m : ℕ)
    → Roomy (length own) m → extract_of x m ≡ gives (report_of x)
alone_makes x own n good bytes sized nums small m fits =
    makes_of x (length own) (n ∷ []) (one x own bytes sized good) sized nums (omega arith)
    (All-cons IsSmall n [] small (All-nil IsSmall)) m fits

module _ (rise : SortedRise) (same : SortedAreTheSame) {R : Type 0} (stands : R → Option ℕ)
    (left : R → Option (List ℕ)) (l : Layout) (n : RecordNumber) (own b : List ℕ) (fs : List Fetched)
    (is : IsOwn stands left l n own b fs) (good : good_size l.size ≡ true) where
  above : 0 < l.size
  above = size_above_0 l.size good

  long : All (Long l.size) fs
  long = all_long same stands left l n own b fs is

  chosen_sizes : sizes_checked l.size (raw_of fs) ≡ gives tt
  unfolding sizes_checked whole_records
  chosen_sizes = rw (good, raw_long l.size fs long, mul-mod_right l.size (length (numbers_of fs))) refl

  one_each : one_number_each l.size (raw_of fs) (numbers_of fs) ≡ gives tt
  unfolding one_number_each
  one_each =
      rw (
        raw_long l.size fs long,
        mul-div_cancel_left (length (numbers_of fs)) above,
        eq-eqb (length (numbers_of fs)) (length (numbers_of fs)) refl,
      ) refl

  -- the records are taken for an extract
  pub suits : RisingIsAccepted → chosen_checked l.size (raw_of fs) (numbers_of fs) ≡ gives tt
  unfolding chosen_checked
  suits accepted =
      rw (chosen_sizes, one_each)
      (accepted (numbers_of fs)
      (rises_to 0 (numbers_of fs) (numbers_rise 0 fs (all_rise same stands left l n own b fs is rise))))

  fs_wanted : of_all fs ≡ sorted (n ∷ referred (open_of b n))
  fs_wanted = wanted same stands left l n own b fs is

  most_numbers : ReferencesAreFew → length (numbers_of fs) ≤ 158
  most_numbers refs =
      let a = numbers_few fs in
      let c = length-map fs (λ (f : Fetched). f.number) in
      let d = ap length fs_wanted in
      let e = (same (n ∷ referred (open_of b n)) n).1 in
      let f = referred_few refs b n (open_of b n) refl in
      omega arith

  small : n.0 < number_end → ((k : ℕ) → get_or own k 0 < 256) → All IsSmall (numbers_of fs)
  small first bytes =
      let q = sound_is own b is.0 in
      let a : All IsByte b = subst (All IsByte) (sym q.is) (bytes_fixed own bytes) in
      let r : All IsSmall (n ∷ referred (open_of b n)) =
      All-cons IsSmall n (referred (open_of b n)) first (referred_small b n (open_of b n) refl a) in
      numbers_all IsSmall fs (subst (All IsSmall) (sym fs_wanted)
      (into_order IsSmall same (n ∷ referred (open_of b n)) r))

  -- and its table is written into a buffer that has room for 158
  module _ (x : Extract) (bytes : x.bytes.now ≡ raw_of fs) (sized : x.size ≡ l.size)
      (nums : AreNumbers x.numbers (numbers_of fs)) where
    count : record_count x ≡ length (numbers_of fs)
    count = count_is x fs l.size bytes sized nums above long

    pub makes : ReferencesAreFew → n.0 < number_end → ((k : ℕ) → get_or own k 0 < 256) → (m : ℕ) → Roomy l.size m
        → extract_of x m ≡ gives (report_of x)
    makes refs first own_bytes m fits =
        makes_of x l.size (numbers_of fs) count sized nums (most_numbers refs) (small first own_bytes) m fits
