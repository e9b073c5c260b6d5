-- The table that a record is listed by, from what was fetched.
use Rattle.std.specs.Prelude.{ℕ, suc, ◌≡◌, ◌*◌, ◌≤◌, ◌<◌, List, [], ◌∷◌, ◌++◌, length, take, get_or}
use Rattle.std.specs.Prelude.{Bool, true, false, Option, Some, None}
use Rattle.std.proofs.Common.{refl, sym, ap, subst, ◌∙◌, append-nil, inl, arith}
use Rattle.std.proofs.lemmas.List.{length-take}
use Rattle.std.proofs.lemmas.List.Elements.{All-nil, All-cons}
use Rattle.fields.specs.declared.RecordNumber.{RecordNumber}
use Rattle.fields.specs.Answer.{gives}
use Rattle.table.specs.Check.{number_end}
use Rattle.record.specs.Open.{open_of}
use Rattle.extract.specs.Size.{good_size, chosen_checked}
use Rattle.extract.specs.Extracted.{extract_of, report_of}
use Rattle.extract.specs.Laws.{RisingIsAccepted}
use Rattle.extract.specs.declared.Extract.{Extract}
use Rattle.extract.specs.Fixup.{Verdict, left_out, refused, sound, verdict_of}
use Rattle.references.specs.Laws.{SortedRise, SortedAreTheSame, ReferencesAreFew}
use Rattle.references.specs.Rising.{sorted, placed}
use Rattle.mft.specs.Absence.{absence_by, absence_of}
use Rattle.mft.specs.Fetch.{Fetches}
use Rattle.mft.specs.Gather.{Fetched, IsFetched, wanted_by, referred}
use Rattle.mft.specs.Gathered.{Gathers, numbers_of, raw_of}
use Rattle.mft.specs.Room.{Roomy}
use Rattle.mft.specs.Made.{AreNumbers, IsOf, IsMade}
use Rattle.mft.specs.Ready.{IsReady}
use Rattle.mft.specs.Sole.{IsSole}
use Rattle.mft.specs.Told.{IsOwn}
use Rattle.mft.specs.declared.gathered.Lost.{Lost}
use Rattle.mft.specs.declared.layout.Layout.{Layout}
use Rattle.mft.specs.declared.ready.Ready.{Ready}
use Rattle.mft.specs.declared.sole.Sole.{Sole}
use Rattle.mft.proofs.Makes.{suits, makes}

-- a list of one more than none
none_more : {A : Type 0} (xs : List A) → length xs ≡ 0 → xs ≡ []
none_more [] e = refl
none_more (x ∷ xs) e = let q : ⊥ = cc in absurd q

-- where no more than one number is wanted, it is the record's own
alone_wanted : SortedAreTheSame → (n : RecordNumber) (ms : List RecordNumber) → length (sorted (n ∷ ms)) ≤ 1
    → sorted (n ∷ ms) ≡ n ∷ []
unfolding sorted placed
alone_wanted same n ms one =
    let long : length (sorted (n ∷ ms)) ≡ suc (length ms) = (same (n ∷ ms) n).1 in
    let none : length ms ≡ 0 = omega (arith, long) in
    rw (none_more ms none) refl

few : {A : Type 0} (xs : List A) (k : ℕ) → length (take k xs) ≤ k
few xs k = omega (arith, length-take k xs)

module _ {R : Type 0} (stands : R → Option ℕ) (left : R → Option (List ℕ)) (l : Layout) (n : RecordNumber)
    (own b : List ℕ) (v : verdict_of own ≡ sound b) (long : length own ≡ l.size) where
  -- alone
  pub ready_alone : SortedAreTheSame → (count : ℕ) (numbers : List RecordNumber) → count ≡ 1
      → take count numbers ≡ wanted_by (open_of b n) n → (m : ℕ) (t : List ℕ) (y : Ready)
      → y.length ≤ length t → IsMade (length own) own (n ∷ []) n m (take y.length t) → y.lost.items ≡ []
      → IsReady stands left l n own t y
  ready_alone same count numbers one wanted m t y fits made lost =
      let f : Fetched = record { number = n; raw = own; why = None } in
      let many : length (sorted (n ∷ referred (open_of b n))) ≤ 1 =
      omega (arith, few numbers count, one, ap length wanted) in
      let first : n ∷ [] ≡ wanted_by (open_of b n) n = sym (alone_wanted same n (referred (open_of b n)) many) in (
        fits,
        (
          b,
          (
            f ∷ [],
            (
              (
                v,
                (All-cons (IsFetched stands left l n own) f [] (long, inl (refl, refl, refl)) (All-nil _), first),
              ),
              lost,
              (
                m,
                subst (λ (k : ℕ). IsMade k (own ++ []) (n ∷ []) n m (take y.length t)) long
                    (subst (λ (raw : List ℕ). IsMade (length own) raw (n ∷ []) n m (take y.length t))
                    (sym (append-nil own)) made),
              ),
            ),
          ),
        ),
      )

  -- with others
  pub ready_with : (wanted : List RecordNumber) → wanted ≡ wanted_by (open_of b n) n → (buffer : List ℕ)
      (numbers : List RecordNumber) (lost : List Lost) → Gathers stands left l n own wanted buffer numbers lost
      → (m : ℕ) (t : List ℕ) (y : Ready) → y.length ≤ length t
      → IsMade l.size (take (l.size * length numbers) buffer) numbers n m (take y.length t) → y.lost.items ≡ lost
      → IsReady stands left l n own t y
  ready_with wanted w buffer numbers lost (fs, (all, names), nums, bytes, los) m t y fits made same = (
    fits,
    (
      b,
      (
        fs,
        (
          (v, (all, names ∙ w)),
          same ∙ los,
          (
            m,
            subst (λ (ns : List RecordNumber). IsMade l.size (raw_of fs) ns n m (take y.length t)) nums
                (subst (λ (raw : List ℕ). IsMade l.size raw numbers n m (take y.length t)) bytes made),
          ),
        ),
      ),
    ),
  )

-- what was gathered makes a table, by what the code has of it
module _ (rise : SortedRise) (same : SortedAreTheSame) {R : Type 0} (stands : R → Option ℕ)
    (left : R → Option (List ℕ)) (l : Layout) (good : good_size l.size ≡ true) (n : RecordNumber) (own b : List ℕ)
    (v : verdict_of own ≡ sound b) (wanted : List RecordNumber) (w : wanted ≡ wanted_by (open_of b n) n)
    (buffer : List ℕ) (numbers : List RecordNumber) (lost : List Lost)
    (gathered : Gathers stands left l n own wanted buffer numbers lost) (k count : ℕ) (ns : List RecordNumber)
    (sized : k ≡ l.size) (many : count ≡ length numbers) (is : ns ≡ numbers) where
  raw_as : take (k * count) buffer ≡ raw_of gathered.0
  raw_as = rw (sized, many) gathered.3

  numbers_as : ns ≡ numbers_of gathered.0
  numbers_as = is ∙ gathered.2

  of_own : IsOwn stands left l n own b gathered.0
  of_own = (v, (gathered.1.0, gathered.1.1 ∙ w))

  pub gathered_suit : RisingIsAccepted → chosen_checked l.size (take (k * count) buffer) ns ≡ gives tt
  gathered_suit accepted =
      rw (raw_as, numbers_as) (suits rise same stands left l n own b gathered.0 of_own good accepted)

  pub gathered_make : ReferencesAreFew → n.0 < number_end → ((i : ℕ) → get_or own i 0 < 256) → (m : ℕ)
      → Roomy l.size m → (x : Extract) → IsOf l.size (take (k * count) buffer) ns x
      → extract_of x m ≡ gives (report_of x)
  gathered_make refs small bytes m fits x (raw, size, nums) =
      makes rise same stands left l n own b gathered.0 of_own good x (raw ∙ raw_as) size
      (subst (AreNumbers x.numbers) numbers_as nums) refs small bytes m fits

-- the table of what the code has
pub made_as : (size k : ℕ) → k ≡ size → (count : ℕ) (numbers ns : List RecordNumber) → count ≡ length ns
    → numbers ≡ ns → (buffer : List ℕ) (n : RecordNumber) (m : ℕ) (t : List ℕ)
    → IsMade size (take (k * count) buffer) numbers n m t → IsMade size (take (size * length ns) buffer) ns n m t
made_as size k same count numbers ns many is buffer n m t made =
    subst (λ (xs : List RecordNumber). IsMade size (take (size * length ns) buffer) xs n m t) is
    (subst (λ (c : ℕ). IsMade size (take (size * c) buffer) numbers n m t) many
    (subst (λ (s : ℕ). IsMade size (take (s * count) buffer) numbers n m t) same made))

-- a record alone, in what the code has
pub sole_as : (own own' : List ℕ) → own' ≡ own → (n n' : RecordNumber) → n' ≡ n → (m m' : ℕ) → m' ≡ m
    → (t t' : List ℕ) → t' ≡ t → (s : Sole) → IsSole own n m t s → IsSole own' n' m' t' s
sole_as own own' o n n' i m m' k t t' e s p =
    subst (λ (x : List ℕ). IsSole x n' m' t' s) (sym o)
    (subst (λ (x : RecordNumber). IsSole own x m' t' s) (sym i)
    (subst (λ (x : ℕ). IsSole own n x t' s) (sym k) (subst (λ (x : List ℕ). IsSole own n m x s) (sym e) p)))

-- a record that was read, and is there, is sound
by_absence : (v : Verdict) → None ≡ absence_by v → (b : List ℕ) × (v ≡ sound b)
by_absence left_out e = let q : ⊥ = cc in absurd q
by_absence (refused c) e = let q : ⊥ = cc in absurd q
by_absence (sound b) e = (b, refl)

by_reading : (whole : Bool) (room : List ℕ) → None ≡ absence_of whole room → (b : List ℕ) × (verdict_of room ≡ sound b)
by_reading true room e = by_absence (verdict_of room) e
by_reading false room e = let q : ⊥ = cc in absurd q

pub sound_fetched : {R : Type 0} (stands : R → Option ℕ) (left : R → Option (List ℕ)) (old new : R) (place : Option ℕ)
    (room : List ℕ) → Fetches stands left old new place room None → (b : List ℕ) × (verdict_of room ≡ sound b)
sound_fetched stands left old new None room (same, e) = let q : ⊥ = cc in absurd q
sound_fetched stands left old new (Some p) room (whole, reads, e) = by_reading whole room e
