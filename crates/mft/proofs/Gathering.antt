-- One record more is gathered.
use Rattle.std.specs.Prelude.{ℕ, suc, ◌+◌, ◌*◌, ◌<◌, ◌≤◌, ◌≡◌, List, [], ◌∷◌, ◌++◌, length, take}
use Rattle.std.specs.Prelude.{Option, Some, None, get_or}
use Rattle.std.proofs.Common.{arith, refl, sym, ap, ◌∙◌, append-nil, length-append, le_refl}
use Rattle.std.proofs.Math.Nat.{mul-le-mul_left}
use Rattle.std.proofs.Math.Seq.{take-suc}
use Rattle.std.proofs.lemmas.Grind.{flat_map-append}
use Rattle.std.proofs.lemmas.List.{map-append, length-take-le, get_or-take}
use Rattle.std.proofs.lemmas.List.Elements.{All-nil, All-cons, All-append}
use Rattle.std.proofs.lemmas.Slice.{take-put_mid, take-put_mid_below}
use borrow.Rule.Slice.PartMut.{put_mid}
use Rattle.fields.specs.declared.RecordNumber.{RecordNumber}
use Rattle.command.specs.declared.absence.Absence.{Absence}
use Rattle.mft.specs.Gather.{Fetched, lost_by, lost_of, IsFetched}
use Rattle.mft.specs.Gathered.{kept_by, numbers_of, raw_of, Gathers}
use Rattle.mft.specs.declared.gathered.Lost.{Lost}
use Rattle.mft.specs.declared.layout.Layout.{Layout}

module _ {R : Type 0} (stands : R → Option ℕ) (left : R → Option (List ℕ)) (l : Layout) (own : RecordNumber)
    (raw : List ℕ) where
  pub none : (buffer : List ℕ) (numbers : List RecordNumber) (lost : List Lost) → numbers ≡ [] → lost ≡ []
      → Gathers stands left l own raw [] buffer numbers lost
  none buffer numbers lost n e =
      let front : l.size * length numbers ≡ 0 = rw n (omega arith) in
      ([], (All-nil _, refl), n, ap (λ (k : ℕ). take k buffer) front, e)

  module _ (buffer : List ℕ) (numbers : List RecordNumber) (n : RecordNumber) (room : List ℕ) (k : ℕ)
      (inside : l.size * length numbers ≤ length buffer) (long : length room ≡ l.size) where
    -- one that is there stands behind the others; one that is not takes no room
    stands_by : (fs : List Fetched) (why : Option Absence) → take (l.size * length numbers) buffer ≡ raw_of fs
        → take (l.size * length (numbers ++ kept_by why (n ∷ []))) (put_mid (l.size * length numbers) k buffer room)
        ≡ raw_of fs ++ kept_by why room
    stands_by fs None bytes =
        let more = length-append numbers (n ∷ []) in
        let one_more : length (numbers ++ n ∷ []) ≡ length numbers + 1 = omega (arith, more) in
        let end : l.size * length (numbers ++ n ∷ []) ≡ l.size * length numbers + length room =
        rw (one_more, long) (omega arith) in
        take-put_mid (l.size * length numbers) k buffer room (l.size * length (numbers ++ n ∷ [])) end inside
        ∙ ap (λ (x : List ℕ). x ++ room) bytes
    stands_by fs (Some why) bytes =
        ap
        (λ (x : List RecordNumber). take (l.size * length x) (put_mid (l.size * length numbers) k buffer room))
        (append-nil numbers)
        ∙ take-put_mid_below (l.size * length numbers) k buffer room (l.size * length numbers) (le_refl _) inside
        ∙ bytes ∙ sym (append-nil (raw_of fs))

    pub next : (ns : List RecordNumber) (lost : List Lost) (why : Option Absence)
        → Gathers stands left l own raw ns buffer numbers lost
        → IsFetched stands left l own raw (record { number = n; raw = room; why = why })
        → Gathers stands left l own raw (ns ++ n ∷ []) (put_mid (l.size * length numbers) k buffer room)
        (numbers ++ kept_by why (n ∷ [])) (lost ++ lost_by n why)
    next ns lost why (fs, (all, names), nums, bytes, los) is =
        let f : Fetched = record { number = n; raw = room; why = why } in (
          fs ++ f ∷ [],
          (
            All-append (IsFetched stands left l own raw) fs (f ∷ []) all
                (All-cons (IsFetched stands left l own raw) f [] is (All-nil _)),
            map-append (λ (g : Fetched). g.number) fs (f ∷ [])
                ∙ ap (λ (x : List RecordNumber). x ++ n ∷ []) names,
          ),
          ap (λ (x : List RecordNumber). x ++ kept_by why (n ∷ [])) nums
              ∙ ap (λ (x : List RecordNumber). numbers_of fs ++ x) (sym (append-nil (kept_by why (n ∷ []))))
              ∙ sym (flat_map-append (λ (g : Fetched). kept_by g.why (g.number ∷ [])) fs (f ∷ [])),
          stands_by fs why bytes
              ∙ ap (λ (x : List ℕ). raw_of fs ++ x) (sym (append-nil (kept_by why room)))
              ∙ sym (flat_map-append (λ (g : Fetched). kept_by g.why g.raw) fs (f ∷ [])),
          ap (λ (x : List Lost). x ++ lost_by n why) los
              ∙ ap (λ (x : List Lost). lost_of fs ++ x) (sym (append-nil (lost_by n why)))
              ∙ sym (flat_map-append (λ (g : Fetched). lost_by g.number g.why) fs (f ∷ [])),
        )

module _ {R : Type 0} (stands : R → Option ℕ) (left : R → Option (List ℕ)) (l : Layout) (own : RecordNumber)
    (raw : List ℕ) where
  -- the same of what the code has
  pub next_by : (buffer : List ℕ) (numbers : List RecordNumber) (n : RecordNumber) (room : List ℕ) (k : ℕ)
      → l.size * length numbers ≤ length buffer → length room ≡ l.size
      → (ns more : List RecordNumber) → ns ++ n ∷ [] ≡ more → (lost : List Lost) (why : Option Absence)
      → Gathers stands left l own raw ns buffer numbers lost
      → IsFetched stands left l own raw (record { number = n; raw = room; why = why })
      → (size : ℕ) → size ≡ l.size → (count : ℕ) → count ≡ length numbers
      → (numbers' : List RecordNumber) → numbers' ≡ numbers ++ kept_by why (n ∷ [])
      → (lost' : List Lost) → lost' ≡ lost ++ lost_by n why
      → Gathers stands left l own raw more (put_mid (size * count) k buffer room) numbers' lost'
  next_by buffer numbers n room k inside long ns more is lost why g f size same count many numbers' nums lost' los =
      rw (same, many, nums, los, sym is)
      (next stands left l own raw buffer numbers n room k inside long ns lost why g f)

pub few_more : (numbers : List RecordNumber) (n : RecordNumber) (why : Option Absence) (numbers' : List RecordNumber)
    → numbers' ≡ numbers ++ kept_by why (n ∷ []) → (i : ℕ) → length numbers ≤ i → length numbers' ≤ i + 1
few_more numbers n None numbers' is i few =
    let more = length-append numbers (n ∷ []) in
    let same : length numbers' ≡ length (numbers ++ n ∷ []) = ap length is in
    omega (arith, more)
few_more numbers n (Some why) numbers' is i few =
    let same : length numbers' ≡ length numbers = ap length (is ∙ append-nil numbers) in
    omega arith

-- the next number that is wanted
pub next_wanted : (xs : List RecordNumber) (k i : ℕ) (d : RecordNumber) → i < k → k ≤ length xs
    → take i (take k xs) ++ get_or xs i d ∷ [] ≡ take (i + 1) (take k xs)
next_wanted xs k i d l within =
    let long = length-take-le k xs within in
    let one_more : suc i ≡ i + 1 = omega arith in
    ap (λ (x : RecordNumber). take i (take k xs) ++ x ∷ []) (sym (get_or-take k xs i d l))
    ∙ sym (take-suc (take k xs) i d (omega arith))
    ∙ ap (λ (m : ℕ). take m (take k xs)) one_more

-- the next record's room lies in the buffer
pub inside : (size count i n : ℕ) → count ≤ i → i < 158 → size * 158 ≤ n → size * count ≤ n
inside size count i n few l room =
    let under : count ≤ 158 = omega arith in
    let most : size * count ≤ size * 158 = mul-le-mul_left size under in
    omega arith
