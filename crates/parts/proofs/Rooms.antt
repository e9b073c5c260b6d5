-- How much room parts take: one for each entry of 26 bytes at least, and no more than there is.
use Rattle.std.proofs.Common.{ℕ, ◌+◌, ◌-◌, ◌*◌, ◌<◌, ◌≤◌, ◌≡◌, Bool, true, false, ltb, refl, arith}
use Rattle.std.proofs.Common.{List, [], ◌∷◌, length}
use Rattle.std.proofs.lemmas.Bool.Decides.{nat_tests}
use borrow.Author.Tests.{lt-ltb}
use Rattle.std.specs.Prelude.{Option, Some, None}
use Rattle.fields.specs.Pick.{pick}
use Rattle.fields.specs.Answer.{gives, refuses, refusal, Outcome}
use Rattle.fields.specs.Known.{known_type}
use Rattle.fields.specs.declared.RecordNumber.{RecordNumber}
use Rattle.fields.proofs.Cases.{both}
use Rattle.fields.specs.declared.Cause.TheVariants.{UnknownType, NoRoom, BadState}
use Rattle.list.specs.declared.Entry.{Entry}
use Rattle.items.specs.State.{lies_in, list_at}
use Rattle.items.specs.Key.{name_in, key_of, continues}
use Rattle.items.specs.Items.{entries_of}
use Rattle.items.specs.declared.walk.Rest.{Rest}
use Rattle.items.specs.declared.key.Key.{Key}
use Rattle.items.proofs.Bounds.{lies}
use Rattle.items.proofs.Peel.{peel}
use Rattle.parts.specs.declared.Part.{Part}
use Rattle.parts.specs.Part.{part_of}
use Rattle.parts.specs.Parts.{Parts, stops, giving, taking, parts_by, parts_from, parts_in, parts_of}
use Rattle.parts.specs.Laws.{PartsFit, RoomSuffices}

by_test : (P : Parts → Type 0) (b : Bool) (x y : Parts) → (b ≡ true → P x) → P y → P (pick b x y)
by_test P true x y f q = f refl
by_test P false x y f q = q

giving_fits : (place room : ℕ) (a : Outcome Part) (p : Parts) → 0 < room → length p.given ≤ room - 1
    → length (giving place a p).given ≤ room
unfolding giving
giving_fits place room (gives x) p l f = omega arith
giving_fits place room (refuses r) p l f = omega arith

module _ (s : List ℕ) (n : RecordNumber) (look : RecordNumber → Option (List ℕ)) where
  fits_taking : (room : ℕ) (e : Entry) (from : ℕ) (p : Parts) → length p.given ≤ room - 1
      → length (taking s n look room e from p).given ≤ room
  fits_taking room e from p f =
      by_test (λ (x : Parts). length x.given ≤ room) (ltb 0 room) _ (stops (refuses (refusal NoRoom n from)))
      (λ t. let l : 0 < room = grind (arith, nat_tests) in giving_fits from room (part_of s n look e from) p l f)
      (omega arith)

  fits_by : (key : Key) (to room : ℕ) (es : List (Outcome Entry)) (from : ℕ)
      → length (parts_by s n look key to room es from).given ≤ room
  unfolding parts_by
  fits_by key to room [] from = omega arith
  fits_by key to room (refuses r ∷ es) from = omega arith
  fits_by key to room (gives e ∷ es) from =
      both (λ (p : Parts). length p.given ≤ room) (continues key e (name_in s (list_at from to) e)) _
      (stops (gives tt))
      (fits_taking room e from _ (fits_by key to (room - 1) es (from + e.length))) (omega arith)

  fits_from : (to room : ℕ) (es : List (Outcome Entry)) (from : ℕ)
      → length (parts_from s n look to room es from).given ≤ room
  unfolding parts_from
  fits_from to room [] from = omega arith
  fits_from to room (refuses r ∷ es) from = omega arith
  fits_from to room (gives e ∷ es) from =
      both (λ (p : Parts). length p.given ≤ room) (known_type e.ty) _
      (stops (refuses (refusal UnknownType n from)))
      (fits_taking room e from _ (fits_by (key_of e (name_in s (list_at from to) e)) to (room - 1) es
      (from + e.length))) (omega arith)

  fits_in : (room : ℕ) (o : Option Rest) → length (parts_in s n look room o).given ≤ room
  unfolding parts_in
  fits_in room None = omega arith
  fits_in room (Some l) = fits_from l.to room (entries_of s n l.to l.from) l.from

  -- two rooms, each for as many entries as there are bytes for
  same_by : (key : Key) (to a b : ℕ) (es : List (Outcome Entry)) (from : ℕ) → es ≡ entries_of s n to from
      → to - from < 26 * (a + 1) → to - from < 26 * (b + 1) → parts_by s n look key to a es from ≡ parts_by s n
      look key to b es from
  unfolding parts_by
  same_by key to a b [] from q k l = refl
  same_by key to a b (refuses r ∷ es) from q k l = refl
  same_by key to a b (gives e ∷ es) from q k l =
      let p = peel s n to from e es q in let x = p.least in let y = p.most in
      let f = lt-ltb 0 a (omega arith) in let g = lt-ltb 0 b (omega arith) in
      let h = same_by key to (a - 1) (b - 1) es (from + e.length) p.tail (omega arith) (omega arith) in
      rw (f, g, h) refl

  same_from : (to a b : ℕ) (es : List (Outcome Entry)) (from : ℕ) → es ≡ entries_of s n to from
      → to - from < 26 * (a + 1) → to - from < 26 * (b + 1) → parts_from s n look to a es from ≡ parts_from s n look
      to b es from
  unfolding parts_from
  same_from to a b [] from q k l = refl
  same_from to a b (refuses r ∷ es) from q k l = refl
  same_from to a b (gives e ∷ es) from q k l =
      let p = peel s n to from e es q in let x = p.least in let y = p.most in
      let f = lt-ltb 0 a (omega arith) in let g = lt-ltb 0 b (omega arith) in
      let h = same_by (key_of e (name_in s (list_at from to) e)) to (a - 1) (b - 1) es (from + e.length) p.tail
      (omega arith) (omega arith) in
      rw (f, g, h) refl

  same_in : (a b : ℕ) (o : Option Rest) → length s ≤ 4096 → 157 ≤ a → 157 ≤ b → lies_in (length s) o ≡ true
      → parts_in s n look a o ≡ parts_in s n look b o
  unfolding parts_in
  same_in a b None m x y z = refl
  same_in a b (Some l) m x y z =
      let w = lies s n (Some l) z in let u = w.most in
      same_from l.to a b (entries_of s n l.to l.from) l.from refl (omega arith) (omega arith)

  same_of : (a b : ℕ) (o : Option Rest) → ((lies_in (length s) o ≡ true)
      → parts_in s n look a o ≡ parts_in s n look b o) → parts_of s n look a o ≡ parts_of s n look b o
  unfolding parts_of
  same_of a b o f = by (lies_in (length s) o) f
    where
      by : (t : Bool) → (t ≡ true → parts_in s n look a o ≡ parts_in s n look b o)
          → pick t (parts_in s n look a o) (stops (refuses (refusal BadState n 0))) ≡ pick t (parts_in s n look b o)
          (stops (refuses (refusal BadState n 0)))
      by true f = f refl
      by false f = refl

pub parts_fit : PartsFit
unfolding parts_of
parts_fit s n look room o =
    both (λ (p : Parts). length p.given ≤ room) (lies_in (length s) o) _ (stops (refuses (refusal BadState n 0)))
    (fits_in s n look room o) (omega arith)

pub room_suffices : RoomSuffices
room_suffices s n look room o m l = same_of s n look room 157 o (same_in s n look room 157 o m l (omega arith))
