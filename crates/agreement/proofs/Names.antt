-- Lookups that agree on the numbers told find the same records for each entry of the record's lists.
use Rattle.std.proofs.Common.{ℕ, ◌≡◌, Bool, true, false, List, [], ◌∷◌, ◌++◌, eqb, refl, ap, subst}
use Rattle.std.specs.Prelude.{◌||◌, Option, Some}
use Rattle.std.specs.List.{AllByRecursion}
use Rattle.std.proofs.lemmas.List.Elements.{recursion_from_All}
use Rattle.std.proofs.lemmas.Bool.{eqb-true}
use Rattle.fields.specs.Pick.{pick}
use Rattle.fields.specs.Answer.{Outcome, gives, refuses}
use Rattle.fields.specs.declared.RecordNumber.{RecordNumber}
use Rattle.list.specs.declared.Entry.{Entry}
use Rattle.items.specs.Lookup.{held_by}
use Rattle.references.specs.References.{among, one_more, told_by, references_of}
use Rattle.references.specs.Entries.{before, all_entries}
use Rattle.agreement.specs.Agree.{Agree}

-- choices by one test, between what is related
pub choose : {A : Type 0} (R : A → A → Type 0) (t : Bool) (a b x y : A) → R a x → R b y → R (pick t a b) (pick t x y)
choose R true a b x y h k = h
choose R false a b x y h k = k

module _ (s : List ℕ) (n : RecordNumber) (look peek : RecordNumber → Option (List ℕ)) where
  -- both find the same under a number, the base record's own too
  abbrev pub Alike : RecordNumber → Type 0
  Alike m = held_by s n look m ≡ held_by s n peek m

  -- what agreeing says of a number that was told
  abbrev Asked : RecordNumber → Type 0
  Asked m = look m ≡ peek m

  pub asked : (m : RecordNumber) → Asked m → Alike m
  unfolding held_by
  asked m e = ap (λ (x : Option (List ℕ)). pick (eqb m.0 n.0) (Some s) x) e

  pub base : (m : RecordNumber) → eqb m.0 n.0 ≡ true → Alike m
  unfolding held_by
  base m e = rw e refl

  -- entries, up to a refusal, that name such records
  abbrev pub Named : List (Outcome Entry) → Type 0
  Named [] = Unit {0}
  Named (gives e ∷ es) = Alike e.file × Named es
  Named (refuses r ∷ es) = Unit {0}

  -- those in front of others
  pub front_named : (es ys : List (Outcome Entry)) → Named (before es ys) → Named es
  unfolding before
  front_named [] ys h = tt
  front_named (gives e ∷ es) ys h = (h.0, front_named es ys h.1)
  front_named (refuses r ∷ es) ys h = tt

  abbrev the_number : ℕ → RecordNumber
  the_number k = record { 0 = k }

  -- numbers that both were asked for
  abbrev Every : List RecordNumber → Type 0
  Every ms = AllByRecursion Asked ms

  front : (xs ys : List RecordNumber) → Every (xs ++ ys) → Every xs
  front [] ys h = tt
  front (x ∷ xs) ys h = (h.0, front xs ys h.1)

  last : (xs : List RecordNumber) (m : RecordNumber) → Every (xs ++ (m ∷ [])) → Asked m
  last [] m h = h.0
  last (x ∷ xs) m h = last xs m h.1

  member : (ms : List RecordNumber) (m : RecordNumber) → among ms m ≡ true → Every ms → Asked m
  unfolding among
  member [] m e h = absurd (cc)
  member (x ∷ xs) m e h = by (eqb x.0 m.0) refl (λ p. member xs m p h.1) e
    where
      by : (t : Bool) → eqb x.0 m.0 ≡ t → (among xs m ≡ true → Asked m) → t || among xs m ≡ true → Asked m
      by true q f p = subst Asked (ap (λ (k : ℕ). the_number k) (eqb-true _ _ q)) h.0
      by false q f p = f p

  -- what was told before is told still
  kept : (ms : List RecordNumber) (m : RecordNumber) → Every (one_more n ms m) → Every ms
  unfolding one_more
  kept ms m h = by (eqb m.0 n.0 || among ms m) h
    where
      by : (t : Bool) → Every (pick t ms (ms ++ (m ∷ []))) → Every ms
      by true h = h
      by false h = front ms (m ∷ []) h

  -- and so is the one more, unless it is the record's own
  first : (ms : List RecordNumber) (m : RecordNumber) → Every (one_more n ms m) → Alike m
  unfolding one_more
  first ms m h = by (eqb m.0 n.0) refl h
    where
      held : (t : Bool) → among ms m ≡ t → Every (pick t ms (ms ++ (m ∷ []))) → Alike m
      held true q h = asked m (member ms m q h)
      held false q h = asked m (last ms m h)

      by : (t : Bool) → eqb m.0 n.0 ≡ t → Every (pick (t || among ms m) ms (ms ++ (m ∷ []))) → Alike m
      by true q h = base m q
      by false q h = held (among ms m) refl h

  told_before : (ms : List RecordNumber) (es : List (Outcome Entry)) → Every (told_by n ms es).numbers → Every ms
  unfolding told_by
  told_before ms [] h = h
  told_before ms (refuses r ∷ es) h = h
  told_before ms (gives e ∷ es) h = kept ms e.file (told_before (one_more n ms e.file) es h)

  told_named : (ms : List RecordNumber) (es : List (Outcome Entry)) → Every (told_by n ms es).numbers → Named es
  unfolding told_by
  told_named ms [] h = tt
  told_named ms (refuses r ∷ es) h = tt
  told_named ms (gives e ∷ es) h =
      (first ms e.file (told_before (one_more n ms e.file) es h), told_named (one_more n ms e.file) es h)

  pub all_named : Agree s n look peek → Named (all_entries s n)
  unfolding references_of
  all_named a = told_named [] (all_entries s n) (recursion_from_All Asked _ a)
