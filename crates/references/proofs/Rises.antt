-- In rising order numbers stay the same, and rise where no two of them are equal.
use Rattle.std.proofs.Common.{ℕ, suc, ◌≤◌, ◌≡◌, Bool, true, false, List, [], ◌∷◌, ◌++◌, length, eqb, ltb}
use Rattle.std.proofs.Common.{refl, ap, ◌∙◌, arith}
use Rattle.std.specs.Prelude.{◌||◌}
use Rattle.std.proofs.lemmas.Bool.{ltb-true, ltb-false, eqb-false, or_from, or_parts}
use Rattle.std.proofs.lemmas.Bool.Decides.{nat_tests}
use Rattle.fields.specs.Pick.{pick}
use Rattle.fields.specs.Answer.{Outcome, gives, refuses}
use Rattle.fields.specs.declared.RecordNumber.{RecordNumber}
use Rattle.list.specs.declared.Entry.{Entry}
use Rattle.references.specs.Entries.{all_entries}
use Rattle.references.specs.References.{among, one_more, told_by, references_of}
use Rattle.references.specs.Rising.{placed, sorted}
use Rattle.references.specs.Laws.{Rises, SortedRise, SortedAreTheSame}
use Rattle.references.proofs.Lists.{eqb_turned, among_push}

among_placed : (m k : RecordNumber) (xs : List RecordNumber) → among (placed m xs) k ≡ (eqb m.0 k.0 || among xs k)
unfolding among placed
among_placed m k [] = refl
among_placed m k (x ∷ xs) = let i = among_placed m k xs in grind (arith, nat_tests)

length_placed : (m : RecordNumber) (xs : List RecordNumber) → length (placed m xs) ≡ suc (length xs)
unfolding placed
length_placed m [] = refl
length_placed m (x ∷ xs) = let i = length_placed m xs in grind (arith, nat_tests)

among_sorted : (xs : List RecordNumber) (m : RecordNumber) → among (sorted xs) m ≡ among xs m
unfolding among sorted
among_sorted [] m = refl
among_sorted (x ∷ xs) m = among_placed x m (sorted xs) ∙ ap (λ t. eqb x.0 m.0 || t) (among_sorted xs m)

length_sorted : (xs : List RecordNumber) → length (sorted xs) ≡ length xs
unfolding sorted
length_sorted [] = refl
length_sorted (x ∷ xs) = length_placed x (sorted xs) ∙ ap suc (length_sorted xs)

pub sorted_are_the_same : SortedAreTheSame
sorted_are_the_same ms m = (among_sorted ms m, length_sorted ms)

-- no number is told twice
abbrev Apart : List RecordNumber → Type 0
Apart [] = Unit {0}
Apart (x ∷ xs) = (among xs x ≡ false) × Apart xs

rises_by : (least : ℕ) (m x : RecordNumber) (xs ys : List RecordNumber) (t : Bool) → ltb m.0 x.0 ≡ t → least ≤ m.0
    → (x.0 ≡ m.0 → ⊥) → Rises least (x ∷ xs) → (suc x.0 ≤ m.0 → Rises (suc x.0) ys)
    → Rises least (pick t (m ∷ x ∷ xs) (x ∷ ys))
rises_by least m x xs ys true e l n r f = (l, (ltb-true m.0 x.0 e, r.1))
rises_by least m x xs ys false e l n r f = (r.0, f (let k = ltb-false m.0 x.0 e in omega arith))

rises_placed : (least : ℕ) (m : RecordNumber) (xs : List RecordNumber) → least ≤ m.0 → among xs m ≡ false
    → Rises least xs → Rises least (placed m xs)
unfolding among placed
rises_placed least m [] l a r = (l, tt)
rises_placed least m (x ∷ xs) l a r =
    let p = or_parts (eqb x.0 m.0) (among xs m) a in
    rises_by least m x xs (placed m xs) (ltb m.0 x.0) refl l (eqb-false x.0 m.0 p.0) r
    (λ k. rises_placed (suc x.0) m xs k p.1 r.1)

rises_sorted : (xs : List RecordNumber) → Apart xs → Rises 0 (sorted xs)
unfolding sorted
rises_sorted [] a = tt
rises_sorted (x ∷ xs) a =
    rises_placed 0 x (sorted xs) (omega arith) (among_sorted xs x ∙ a.0) (rises_sorted xs a.1)

apart_push : (ms : List RecordNumber) (m : RecordNumber) → Apart ms → among ms m ≡ false → Apart (ms ++ m ∷ [])
unfolding among
apart_push [] m a e = (refl, tt)
apart_push (x ∷ xs) m a e =
    let p = or_parts (eqb x.0 m.0) (among xs m) e in
    (among_push xs m x ∙ or_from (among xs x) (eqb m.0 x.0) a.0 (eqb_turned m.0 x.0 ∙ p.0), apart_push xs m a.1 p.1)

module _ (n : RecordNumber) where
  apart_more : (ms : List RecordNumber) (m : RecordNumber) (t : Bool) → (eqb m.0 n.0 || among ms m) ≡ t
      → Apart (n ∷ ms) → Apart (n ∷ pick t ms (ms ++ m ∷ []))
  apart_more ms m true e a = a
  apart_more ms m false e a =
      let p = or_parts (eqb m.0 n.0) (among ms m) e in
      (among_push ms m n ∙ or_from (among ms n) (eqb m.0 n.0) a.0 p.0, apart_push ms m a.1 p.1)

  apart_told : (ms : List RecordNumber) (es : List (Outcome Entry)) → Apart (n ∷ ms)
      → Apart (n ∷ (told_by n ms es).numbers)
  unfolding told_by one_more
  apart_told ms [] a = a
  apart_told ms (refuses r ∷ es) a = a
  apart_told ms (gives e ∷ es) a =
      apart_told (one_more n ms e.file) es
      (apart_more ms e.file (eqb e.file.0 n.0 || among ms e.file) refl a)

pub sorted_rise : SortedRise
unfolding references_of among
sorted_rise s n = rises_sorted (n ∷ (references_of s n).numbers) (apart_told n [] (all_entries s n) (refl, tt))
