-- What the table holds that a record of a raw $MFT is listed by: each record that was fetched and is sound, by its
-- number, and none that is lost.
use Rattle.std.specs.Prelude.{ℕ, suc, ◌+◌, ◌*◌, ◌<◌, ◌≤◌, ◌≡◌, ◌||◌, List, [], ◌∷◌, ◌++◌, map, length, take, drop}
use Rattle.std.specs.Prelude.{Bool, true, false, eqb, get_or, All, Option, Some, None}
use Rattle.std.proofs.Common.{refl, sym, ap, subst, ◌∙◌, append-nil, append_assoc, length-append, arith, ⊎_elim}
use Rattle.std.proofs.Math.Nat.{mul-div_cancel_left}
use Rattle.std.proofs.Math.Seq.{get_or-append_seam}
use Rattle.std.proofs.lemmas.Bool.{eqb-true, eq-eqb, or_left, or_right}
use Rattle.std.proofs.lemmas.Grind.{flat_map-append}
use Rattle.std.proofs.lemmas.List.{take_at, drop_at}
use Rattle.std.proofs.lemmas.List.Elements.{All-nil, All-cons, All-append, All-weaker, All-get_or, All-map}
use Rattle.std.proofs.lemmas.List.Elements.{All-head, All-tail}
use Rattle.fields.specs.Answer.{Outcome, gives, refuses}
use Rattle.fields.specs.declared.RecordNumber.{RecordNumber}
use Rattle.fields.specs.declared.Refusal.{Refusal}
use Rattle.fields.proofs.Answers.{refused-given}
use Rattle.fields.proofs.Cases.{not-true, not-second}
use Rattle.table.specs.Check.{table_of}
use Rattle.table.specs.Held.{record_of, base_of}
use Rattle.record.specs.Open.{Lent, lent, open_of, open_in}
use Rattle.items.proofs.Opened.{opened_file}
use Rattle.fields.specs.Length.{good_length}
use Rattle.written.specs.Laws.{numbers_of as header_of}
use Rattle.extract.specs.Base.{base_in}
use Rattle.extract.specs.Extracted.{table_of_extract, extract_of}
use Rattle.extract.specs.Fixup.{verdict_of, sound}
use Rattle.extract.specs.Laws.{TablesPass, RecordsAreFound, OthersAreNot, BasesAreTold, PairsAreReplaced}
use Rattle.extract.specs.Laws.{found_by, base_by, held_as}
use Rattle.extract.specs.Numbers.{listed_at, numbered}
use Rattle.extract.specs.Records.{record_count, record_at, number_at, rows_of}
use Rattle.extract.specs.declared.Extract.{Extract}
use Rattle.extract.specs.declared.numbers.Numbers.{Numbers}
use Rattle.extract.specs.declared.numbers.Numbers.TheVariants as numbers
use Rattle.extract.specs.declared.tally.Extracted.{Extracted}
use Rattle.extract.proofs.Lengths.{sound_is}
use Rattle.references.specs.References.{among, references_of}
use Rattle.references.specs.Rising.{placed, sorted}
use Rattle.references.specs.Laws.{Rises, SortedRise, SortedAreTheSame}
use Rattle.agreement.specs.Agree.{Agree}
use Rattle.command.specs.declared.absence.Absence.{Absence}
use Rattle.mft.specs.Gather.{Fetched, wanted_by, referred, IsFetched}
use Rattle.mft.specs.Gathered.{kept_by, numbers_of, raw_of}
use Rattle.mft.specs.Made.{IsBase, IsMade, AreNumbers}
use Rattle.mft.specs.Base.{OfBase}
use Rattle.mft.specs.Told.{held_of, Has, ByFetched, IsOwn}
use Rattle.mft.specs.declared.layout.Layout.{Layout}

-- a record that opened is the one that was lent
pub opens_as : (b : List ℕ) (n : RecordNumber) (r : Lent) → open_of b n ≡ gives r → r ≡ lent b n
unfolding open_of
opens_as b n r e = opened_file b n r (sym (not-second (good_length (length b)) _ _ _ e refused-given).1)

-- one as long as the records of its volume opens as it does alone
pub opens_alike : (b : List ℕ) (n : RecordNumber) (size : ℕ) → length b ≡ size → open_in b n size ≡ open_of b n
unfolding open_in
opens_alike b n size e = rw (eq-eqb (length b) size e) refl

-- a record that is fixed up is as long as it was
pub sound_long : PairsAreReplaced → (s b : List ℕ) → verdict_of s ≡ sound b → length b ≡ length s
sound_long replaced s b e = let q = sound_is s b e in ap length q.is ∙ (replaced s q.good).0

abbrev pub numbered_by : ℕ → RecordNumber
numbered_by k = record { 0 = k }

-- what holds of numbers holds of one that is among them
same_number : (x m : RecordNumber) → x.0 ≡ m.0 → x ≡ m
same_number x m e = ap numbered_by e

module _ (P : RecordNumber → Type 0) where
  of_one : (xs : List RecordNumber) (x m : RecordNumber) (t : Bool) → eqb x.0 m.0 ≡ t → (t || among xs m) ≡ true
      → P x → (among xs m ≡ true → P m) → P m
  of_one xs x m true e i p k = subst P (same_number x m (eqb-true x.0 m.0 e)) p
  of_one xs x m false e i p k = k i

  pub all_among : (xs : List RecordNumber) (m : RecordNumber) → All P xs → among xs m ≡ true → P m
  unfolding among
  all_among [] m a e = absurd (not-true e)
  all_among (x ∷ xs) m a e =
      of_one xs x m (eqb x.0 m.0) refl e (a 0 x (omega arith)) (all_among xs m (All-tail P x xs a))

  pub among_all : (xs : List RecordNumber) → ((m : RecordNumber) → among xs m ≡ true → P m) → All P xs
  unfolding among
  among_all [] h = All-nil P
  among_all (x ∷ xs) h =
      All-cons P x xs (h x (or_left (eqb x.0 x.0) (among xs x) (eq-eqb x.0 x.0 refl)))
      (among_all xs (λ m e. h m (or_right (eqb x.0 m.0) (among xs m) e)))

  -- what holds of numbers in rising order holds of them in any
  unsorted : SortedAreTheSame → (xs : List RecordNumber) → All P (sorted xs) → All P xs
  unsorted same xs a = among_all xs (λ m e. all_among (sorted xs) m a ((same xs m).0 ∙ e))

-- numbers that are wanted rise
one_rises : (n : RecordNumber) → Rises 0 (sorted (n ∷ []))
unfolding sorted placed
one_rises n = (omega arith, tt)

wanted_rise : SortedRise → (b : List ℕ) (n : RecordNumber) (o : Outcome Lent) → open_of b n ≡ o
    → Rises 0 (wanted_by o n)
wanted_rise rise b n (gives r) e =
    subst (λ (q : Lent). Rises 0 (sorted (n ∷ (references_of q.bytes q.number).numbers))) (sym (opens_as b n r e))
    (rise b n)
wanted_rise rise b n (refuses r) e = one_rises n

-- of what is kept: the record's number, or nothing
pub kept_all : (P : RecordNumber → Type 0) (w : Option Absence) (m : RecordNumber) → P m → All P (kept_by w (m ∷ []))
kept_all P None m p = All-cons P m [] p (All-nil P)
kept_all P (Some w) m p = All-nil P

kept_long : (size : ℕ) (w : Option Absence) (m : RecordNumber) (raw : List ℕ) → length raw ≡ size
    → length (kept_by w raw) ≡ size * length (kept_by w (m ∷ []))
kept_long size None m raw e = omega (arith, e)
kept_long size (Some w) m raw e = omega arith

-- of a list's front, and of what stands behind it
module _ {A : Type 0} (P : A → Type 0) where
  all_front : (xs ys : List A) → All P (xs ++ ys) → All P xs
  all_front [] ys a = All-nil P
  all_front (x ∷ xs) ys a =
      All-cons P x xs (All-head P x (xs ++ ys) a) (all_front xs ys (All-tail P x (xs ++ ys) a))

  all_behind : (xs ys : List A) → All P (xs ++ ys) → All P ys
  all_behind [] ys a = a
  all_behind (x ∷ xs) ys a = all_behind xs ys (All-tail P x (xs ++ ys) a)

abbrev pub Long : ℕ → Fetched → Type 0
Long size f = length f.raw ≡ size

sum_of : (size p q a b : ℕ) → p ≡ size * a → q ≡ size * b → p + q ≡ size * (a + b)
sum_of size p q a b e i = omega arith

pub raw_long : (size : ℕ) (fs : List Fetched) → All (Long size) fs → length (raw_of fs) ≡ size * length (numbers_of fs)
raw_long size [] a = omega arith
raw_long size (f ∷ fs) a =
    length-append (kept_by f.why f.raw) (raw_of fs)
    ∙ sum_of size _ _ (length (kept_by f.why (f.number ∷ []))) (length (numbers_of fs))
    (kept_long size f.why f.number f.raw (a 0 f (omega arith)))
    (raw_long size fs (All-tail (Long size) f fs a))
    ∙ ap (λ (k : ℕ). size * k) (sym (length-append (kept_by f.why (f.number ∷ [])) (numbers_of fs)))

-- numbers of records that were fetched, which rise
abbrev pub of_all : List Fetched → List RecordNumber
of_all fs = map (λ (f : Fetched). f.number) fs

abbrev AtLeast : ℕ → RecordNumber → Type 0
AtLeast least m = least ≤ m.0

rising_above : (least : ℕ) (fs : List Fetched) → Rises least (of_all fs) → All (AtLeast least) (numbers_of fs)
rising_above least [] r = All-nil (AtLeast least)
rising_above least (f ∷ fs) r =
    let k = r.0 in
    All-append (AtLeast least) (kept_by f.why (f.number ∷ [])) (numbers_of fs)
    (kept_all (AtLeast least) f.why f.number k)
    (All-weaker (AtLeast (suc f.number.0)) (AtLeast least) (λ m l. omega arith) (numbers_of fs)
    (rising_above (suc f.number.0) fs r.1))

rising_below : (least : ℕ) (before : List Fetched) (f : Fetched) (after : List Fetched)
    → Rises least (of_all (before ++ f ∷ after)) → least ≤ f.number.0
rising_below least [] f after r = r.0
rising_below least (g ∷ gs) f after r =
    let k = rising_below (suc g.number.0) gs f after r.1 in
    let l = r.0 in omega arith

-- one that is lost has a number that none of the others has
abbrev Off : Fetched → RecordNumber → Type 0
Off f m = m.0 ≡ f.number.0 → ⊥

lost_off : (least : ℕ) (before : List Fetched) (f : Fetched) (after : List Fetched) (w : Absence) → f.why ≡ Some w
    → Rises least (of_all (before ++ f ∷ after)) → All (Off f) (numbers_of (before ++ f ∷ after))
lost_off least [] f after w e r =
    subst (λ (o : Option Absence). All (Off f) (kept_by o (f.number ∷ []) ++ numbers_of after)) (sym e)
    (All-weaker (AtLeast (suc f.number.0)) (Off f) (λ m l k. omega arith) (numbers_of after)
    (rising_above (suc f.number.0) after r.1))
lost_off least (g ∷ gs) f after w e r =
    let l = rising_below (suc g.number.0) gs f after r.1 in
    All-append (Off f) (kept_by g.why (g.number ∷ [])) (numbers_of (gs ++ f ∷ after))
    (kept_all (Off f) g.why g.number (λ k. omega arith))
    (lost_off (suc g.number.0) gs f after w e r.1)

-- the numbers of an extract's records
pub numbered_at : (k : Numbers) (ns : List RecordNumber) (i : ℕ) → AreNumbers k ns → i < length ns
    → numbered k i ≡ listed_at ns i
numbered_at (numbers.From n) ns i e l =
    let z : i ≡ 0 = omega (arith, ap length e) in
    let p : n.0 + 0 ≡ n.0 = omega arith in
    ap (λ (j : ℕ). numbered_by (n.0 + j)) z ∙ ap numbered_by p
    ∙ sym (ap (λ (s : List RecordNumber). listed_at s 0) e) ∙ ap (listed_at ns) (sym z)
numbered_at (numbers.Listed s) ns i e l = ap (λ (r : List RecordNumber). listed_at r i) (sym e)

-- an extract of what was fetched
module _ (x : Extract) (fs : List Fetched) (size : ℕ) (bytes : x.bytes.now ≡ raw_of fs) (sized : x.size ≡ size)
    (nums : AreNumbers x.numbers (numbers_of fs)) (above : 0 < size) (long : All (Long size) fs) where
  pub count_is : record_count x ≡ length (numbers_of fs)
  count_is = rw (bytes, sized, raw_long size fs long) (mul-div_cancel_left (length (numbers_of fs)) above)

  -- one that is there, behind others
  module _ (before : List Fetched) (f : Fetched) (after : List Fetched) (is : fs ≡ before ++ f ∷ after)
      (here : f.why ≡ None) where
    abbrev place : ℕ
    place = length (numbers_of before)

    raw_split : raw_of fs ≡ raw_of before ++ (f.raw ++ raw_of after)
    raw_split =
        ap raw_of is
        ∙ flat_map-append (λ (g : Fetched). kept_by g.why g.raw) before (f ∷ after)
        ∙ ap (λ (w : Option Absence). raw_of before ++ (kept_by w f.raw ++ raw_of after)) here

    numbers_split : numbers_of fs ≡ numbers_of before ++ f.number ∷ numbers_of after
    numbers_split =
        ap numbers_of is
        ∙ flat_map-append (λ (g : Fetched). kept_by g.why (g.number ∷ [])) before (f ∷ after)
        ∙ ap (λ (w : Option Absence). numbers_of before ++ (kept_by w (f.number ∷ []) ++ numbers_of after)) here

    all_split : All (Long size) (before ++ f ∷ after)
    all_split = subst (All (Long size)) is long

    place_within : place < length (numbers_of fs)
    place_within =
        omega (arith, ap length numbers_split, length-append (numbers_of before) (f.number ∷ numbers_of after))

    number_is : number_at x place ≡ f.number
    number_is =
        numbered_at x.numbers (numbers_of fs) place nums place_within
        ∙ ap (λ (ns : List RecordNumber). listed_at ns place) numbers_split
        ∙ get_or-append_seam (numbers_of before) f.number (numbers_of after) (numbered_by 0)

    raw_is : record_at x place ≡ f.raw
    unfolding record_at
    raw_is =
        ap (λ (s : ℕ). take s (drop (s * place) x.bytes.now)) sized
        ∙ ap (λ (s : List ℕ). take size (drop (size * place) s)) (bytes ∙ raw_split)
        ∙ ap (take size) (drop_at (raw_of before) (f.raw ++ raw_of after) (size * place)
        (raw_long size before (all_front (Long size) before (f ∷ after) all_split)))
        ∙ take_at f.raw (raw_of after) size
        (All-head (Long size) f after (all_behind (Long size) before (f ∷ after) all_split))

-- what was fetched for a record
module _ (same : SortedAreTheSame) {R : Type 0} (stands : R → Option ℕ) (left : R → Option (List ℕ)) (l : Layout)
    (n : RecordNumber) (own b : List ℕ) (fs : List Fetched) (is : IsOwn stands left l n own b fs) where
  fetched : All (IsFetched stands left l n own) fs
  fetched = is.1.0

  pub wanted : of_all fs ≡ wanted_by (open_of b n) n
  wanted = is.1.1

  pub all_long : All (Long l.size) fs
  all_long = All-weaker (IsFetched stands left l n own) (Long l.size) (λ f p. p.0) fs fetched

  pub all_rise : SortedRise → Rises 0 (of_all fs)
  all_rise rise = subst (Rises 0) (sym wanted) (wanted_rise rise b n (open_of b n) refl)

  -- what holds of each that was fetched, by its number, holds of each that is wanted
  of_wanted : (P : RecordNumber → Type 0) → All (λ (f : Fetched). P f.number) fs
      → All P (n ∷ referred (open_of b n))
  of_wanted P a =
      unsorted P same (n ∷ referred (open_of b n))
      (subst (All P) wanted (All-map P (λ (f : Fetched). f.number) fs a))

  by_own : (H : Fetched → Type 0) (Q : RecordNumber → Type 0)
      → ((f : Fetched) → H f → f.raw ≡ own → f.why ≡ None → Q f.number) → (f : Fetched) → H f
      → IsFetched stands left l n own f → f.number.0 ≡ n.0 → Q f.number
  by_own H Q h f a (_, p) e = ⊎_elim (λ q. h f a q.1 q.2) (λ q. absurd (q.0 e)) p

  -- and what holds of the record at hand, as it was fetched, holds of its number
  of_own : (H : Fetched → Type 0) (Q : RecordNumber → Type 0)
      → ((f : Fetched) → H f → f.raw ≡ own → f.why ≡ None → Q f.number) → All H fs → Q n
  of_own H Q h a =
      All-head (λ (k : RecordNumber). k.0 ≡ n.0 → Q k) n (referred (open_of b n))
      (of_wanted (λ (k : RecordNumber). k.0 ≡ n.0 → Q k)
      (λ k d i e. by_own H Q h (get_or fs k d) (a k d i) (fetched k d i) e)) refl

  own_long : length own ≡ l.size
  own_long =
      of_own (Long l.size) (λ (k : RecordNumber). length own ≡ l.size) (λ f e raw why. sym (ap length raw) ∙ e) all_long

  -- so it opens alone as it does with a table
  pub fixed_long : PairsAreReplaced → length b ≡ l.size
  fixed_long replaced = sound_long replaced own b is.0 ∙ own_long

  pub opens_in : PairsAreReplaced → open_in b n l.size ≡ open_of b n
  opens_in replaced = opens_alike b n l.size (fixed_long replaced)

module _ (pass : TablesPass) (found : RecordsAreFound) (others : OthersAreNot) (bases : BasesAreTold) where
  -- its table
  module _ (x : Extract) (fs : List Fetched) (size : ℕ) (bytes : x.bytes.now ≡ raw_of fs) (sized : x.size ≡ size)
      (nums : AreNumbers x.numbers (numbers_of fs)) (above : 0 < size) (long : All (Long size) fs)
      (rise : Rises 0 (of_all fs)) (m : ℕ) (r : Extracted) (given : extract_of x m ≡ gives r) where
    bare : table_of_extract x ++ [] ≡ table_of_extract x
    bare = append-nil (table_of_extract x)

    count : record_count x ≡ length (numbers_of fs)
    count = count_is x fs size bytes sized nums above long

    abbrev IsTold : Fetched → Type 0
    IsTold f = record_of (table_of_extract x) f.number ≡ held_of f.why f.raw

    told : (before : List Fetched) (f : Fetched) (after : List Fetched) (w : Option Absence)
        → fs ≡ before ++ f ∷ after → f.why ≡ w → IsTold f
    told before f after None is e =
        let place = length (numbers_of before) in
        let within : place < record_count x =
        rw count (place_within x fs size bytes sized nums above long before f after is e) in
        ap (λ (t : List ℕ). record_of t f.number) (sym bare)
        ∙ ap (λ (k : RecordNumber). record_of (table_of_extract x ++ []) k)
        (sym (number_is x fs size bytes sized nums above long before f after is e))
        ∙ found x m r [] given place within
        ∙ ap (λ (raw : List ℕ). found_by (verdict_of raw))
        (raw_is x fs size bytes sized nums above long before f after is e)
        ∙ ap (λ (o : Option Absence). held_of o f.raw) (sym e)
    told before f after (Some w) is e =
        let off : All (Off f) (numbers_of fs) =
        subst (λ (gs : List Fetched). All (Off f) (numbers_of gs)) (sym is)
        (lost_off 0 before f after w e (subst (λ (gs : List Fetched). Rises 0 (of_all gs)) is rise)) in
        ap (λ (t : List ℕ). record_of t f.number) (sym bare)
        ∙ others x m r [] given f.number (λ i l q.
        let k : i < length (numbers_of fs) = rw count at l in
        All-get_or (Off f) (numbers_of fs) i (numbered_by 0) k off
        (sym (ap (λ (j : RecordNumber). j.0) (numbered_at x.numbers (numbers_of fs) i nums k)) ∙ q))
        ∙ ap (λ (o : Option Absence). held_of o f.raw) (sym e)

    told_from : (before after : List Fetched) → fs ≡ before ++ after → All IsTold after
    told_from before [] is = All-nil IsTold
    told_from before (f ∷ after) is =
        All-cons IsTold f after (told before f after f.why is refl)
        (told_from (before ++ f ∷ []) after (is ∙ sym (append_assoc before (f ∷ []) after)))

    all_told : All IsTold fs
    all_told = told_from [] fs refl

    checked : table_of (table_of_extract x) ≡ gives (header_of x.size (base_in x.base (rows_of x)) r.written)
    checked = ap table_of (sym bare) ∙ (pass x m r [] given).0

    based_on : (n : RecordNumber) (b : List ℕ) → x.base ≡ Some n → record_of (table_of_extract x) n ≡ Some b
        → base_of (table_of_extract x) ≡ Some (record { number = n; bytes = b })
    based_on n b is h =
        ap base_of (sym bare) ∙ bases x m r [] given
        ∙ ap (λ (o : Option RecordNumber). base_by o (table_of_extract x ++ [])) is
        ∙ ap (λ (t : List ℕ). held_as n (record_of t n)) bare
        ∙ ap (held_as n) h

  -- the table of a record alone
  pub sole_based : (own b : List ℕ) (n : RecordNumber) → verdict_of own ≡ sound b → 0 < length own → (m : ℕ)
      (t : List ℕ) → IsMade (length own) own (n ∷ []) n m t → IsBase t (length own) n b
  unfolding sorted placed
  sole_based own b n v above m t made =
      let x = made.4.0 in
      let f : Fetched = record { number = n; raw = own; why = None } in
      let bytes : x.bytes.now ≡ raw_of (f ∷ []) = made.4.1.0 ∙ made.1 ∙ sym (append-nil own) in
      let sized : x.size ≡ length own = made.4.1.1 ∙ made.2 in
      let nums : AreNumbers x.numbers (numbers_of (f ∷ [])) =
      subst (λ (k : Numbers). AreNumbers k (n ∷ [])) (sym made.4.1.2) made.3 in
      let long : All (Long (length own)) (f ∷ []) = All-cons (Long (length own)) f [] refl (All-nil _) in
      let all =
      all_told x (f ∷ []) (length own) bytes sized nums above long (one_rises n) m made.4.2.0 made.4.2.1 in
      let held : record_of (table_of_extract x) n ≡ Some b =
      All-head (λ (g : Fetched). record_of (table_of_extract x) g.number ≡ held_of g.why g.raw) f [] all
      ∙ ap found_by v in
      let same_table : table_of_extract x ≡ t = sym made.4.2.2 in
      subst (λ (s : List ℕ). IsBase s (length own) n b) same_table (
        (
          header_of x.size (base_in x.base (rows_of x)) made.4.2.0.written,
          checked x (f ∷ []) (length own) bytes sized nums above long (one_rises n) m made.4.2.0 made.4.2.1,
          sized,
        ),
        based_on x (f ∷ []) (length own) bytes sized nums above long (one_rises n) m made.4.2.0 made.4.2.1 n b
            made.4.1.3 held,
      )

  module _ (rise : SortedRise) (same : SortedAreTheSame) {R : Type 0} (stands : R → Option ℕ)
      (left : R → Option (List ℕ)) (l : Layout) (n : RecordNumber) (own b : List ℕ) (fs : List Fetched)
      (is : IsOwn stands left l n own b fs) (above : 0 < l.size) (m : ℕ) (t : List ℕ)
      (made : IsMade l.size (raw_of fs) (numbers_of fs) n m t) where
    abbrev x : Extract
    x = made.4.0

    abbrev table : List ℕ
    table = table_of_extract x

    bytes : x.bytes.now ≡ raw_of fs
    bytes = made.4.1.0 ∙ made.1

    sized : x.size ≡ l.size
    sized = made.4.1.1 ∙ made.2

    nums : AreNumbers x.numbers (numbers_of fs)
    nums = subst (λ (k : Numbers). AreNumbers k (numbers_of fs)) (sym made.4.1.2) made.3

    long : All (Long l.size) fs
    long = all_long same stands left l n own b fs is

    rises : Rises 0 (of_all fs)
    rises = all_rise same stands left l n own b fs is rise

    held : All (λ (f : Fetched). record_of table f.number ≡ held_of f.why f.raw) fs
    held = all_told x fs l.size bytes sized nums above long rises m made.4.2.0 made.4.2.1

    own_held : record_of table n ≡ Some b
    own_held =
        of_own same stands left l n own b fs is (λ (f : Fetched). record_of table f.number ≡ held_of f.why f.raw)
        (λ (k : RecordNumber). record_of table k ≡ Some b)
        (λ f h raw why. h ∙ ap (λ (w : Option Absence). held_of w f.raw) why
        ∙ ap (λ (s : List ℕ). found_by (verdict_of s)) raw ∙ ap found_by is.0) held

    pub based : IsBase t l.size n b
    based =
        let same_table : table ≡ t = sym made.4.2.2 in
        subst (λ (s : List ℕ). IsBase s l.size n b) same_table (
          (
            header_of x.size (base_in x.base (rows_of x)) made.4.2.0.written,
            checked x fs l.size bytes sized nums above long rises m made.4.2.0 made.4.2.1,
            sized,
          ),
          based_on x fs l.size bytes sized nums above long rises m made.4.2.0 made.4.2.1 n b made.4.1.3 own_held,
        )

    abbrev Alike : (RecordNumber → Option (List ℕ)) → RecordNumber → Type 0
    Alike peek k = record_of table k ≡ peek k

    -- of a record that opens
    pub agrees : (r : Lent) → open_of b n ≡ gives r → (peek : RecordNumber → Option (List ℕ)) → Has fs peek
        → Agree b n (record_of t) peek
    agrees r e peek has =
        let refs : referred (open_of b n) ≡ (references_of b n).numbers =
        ap referred e ∙ ap (λ (q : Lent). (references_of q.bytes q.number).numbers) (opens_as b n r e) in
        let all : All (Alike peek) (n ∷ referred (open_of b n)) =
        of_wanted same stands left l n own b fs is (Alike peek) (λ k d i. held k d i ∙ sym (has k d i)) in
        subst (λ (s : List ℕ). Agree b n (record_of s) peek) (sym made.4.2.2)
        (subst (All (Alike peek)) refs (All-tail (Alike peek) n (referred (open_of b n)) all))

    -- what holds by each lookup that agrees with the table, and by all or none where the record is refused, holds by
    -- each that has what was fetched
    module _ (P : ℕ → List ℕ → (RecordNumber → Option (List ℕ)) → Type 0) where
      abbrev pub IsBlind : Type 0
      IsBlind = (e : Refusal) → open_of b n ≡ refuses e → (look peek : RecordNumber → Option (List ℕ))
          → P l.size b look → P l.size b peek

      by_opened : (o : Outcome Lent) → open_of b n ≡ o → IsBlind → OfBase t n P → ByFetched fs (P l.size b)
      by_opened (gives r) e blind p peek has = p l.size b peek based (agrees r e peek has)
      by_opened (refuses r) e blind p peek has =
          blind r e (record_of t) peek (p l.size b (record_of t) based (λ k d i. refl))

      pub by_fetched : IsBlind → OfBase t n P → ByFetched fs (P l.size b)
      by_fetched = by_opened (open_of b n) refl
