-- A file has no hazards exactly where all is sound.
use Rattle.std.proofs.Common.{ℕ, ◌+◌, ◌≡◌, Bool, true, false, List, [], ◌∷◌, ◌++◌, refl, sym, ap, ◌∙◌}
use Rattle.std.specs.Prelude.{Option, flat_map}
use Rattle.std.specs.List.{AllByRecursion}
use Rattle.std.proofs.lemmas.List.Concat.{flat_map-cons}
use Rattle.std.proofs.lemmas.List.Elements.{recursion_from_All, All-from_recursion}
use Rattle.fields.specs.Pick.{pick}
use Rattle.fields.specs.Le.{le}
use Rattle.fields.specs.Answer.{Outcome, gives, refuses}
use Rattle.fields.specs.declared.RecordNumber.{RecordNumber}
use Rattle.record.specs.Header.{header_of}
use Rattle.record.specs.Open.{Lent}
use Rattle.items.specs.Lookup.{lookup_of}
use Rattle.references.specs.References.{references_of}
use Rattle.segments.specs.Base.{base_reference_of, is_zero, is_in_use, fits, is_back}
use Rattle.segments.specs.Placed.{Placed, all_placed}
use Rattle.segments.specs.Hazards.{record_hazards, sequence_hazards, entry_hazards, entries_hazards, listed_hazards}
use Rattle.segments.specs.Hazards.{found_hazards, number_hazards, referred_hazards, hazards_of}
use Rattle.segments.specs.Laws.{Each, Fits, RefersBack, NoHazards}
use Rattle.segments.specs.declared.find.Hazard.{Hazard}
use Rattle.segments.proofs.Tests.{used, is_used, no_base, has_no_base, fitting, is_fitting, back, is_back_to}

front : (xs ys : List Hazard) → xs ++ ys ≡ [] → xs ≡ []
front [] ys e = refl
front (x ∷ xs) ys e = absurd (cc)

rest : (xs ys : List Hazard) → xs ++ ys ≡ [] → ys ≡ []
rest [] ys e = e
rest (x ∷ xs) ys e = absurd (cc)

none : (t : Bool) (h : Hazard) → pick t [] (h ∷ []) ≡ [] → t ≡ true
none true h e = refl
none false h e = absurd (cc)

some : (t : Bool) (h : Hazard) → t ≡ true → pick t [] (h ∷ []) ≡ []
some t h e = rw e refl

both_none : (xs ys : List Hazard) → xs ≡ [] → ys ≡ [] → xs ++ ys ≡ []
both_none xs ys e f = rw (e, f) refl

-- a record by itself
record_none : (s : List ℕ) (n : RecordNumber) (due : Bool) → record_hazards s n due ≡ []
    → (is_in_use s ≡ true) × (due ≡ true)
unfolding record_hazards
record_none s n due e = (none (is_in_use s) _ (front _ _ e), none due _ (rest _ _ e))

record_some : (s : List ℕ) (n : RecordNumber) (due : Bool) → is_in_use s ≡ true → due ≡ true
    → record_hazards s n due ≡ []
unfolding record_hazards
record_some s n due u d = both_none _ _ (some (is_in_use s) _ u) (some due _ d)

module _ (s : List ℕ) (n : RecordNumber) (look : RecordNumber → Option (List ℕ)) where
  -- an entry
  NamedWell : Placed → Type 0
  NamedWell p = (r : Lent) → lookup_of s n look p.entry.file p.place ≡ gives r
      → Fits (le 2 s (p.place + 22)) (le 2 r.bytes 16)

  sequence_none : (p : Placed) (k : ℕ) (a : Outcome Lent) → sequence_hazards p k a ≡ []
      → (r : Lent) → a ≡ gives r → Fits k (le 2 r.bytes 16)
  unfolding sequence_hazards header_of
  sequence_none p k (refuses q) e r g = absurd (cc)
  sequence_none p k (gives b) e r g =
      fitting _ _ (none (fits k (le 2 r.bytes 16)) _
      (ap (λ (a : Outcome Lent). sequence_hazards p k a) (sym g) ∙ e))

  sequence_some : (p : Placed) (k : ℕ) (a : Outcome Lent) → ((r : Lent) → a ≡ gives r → Fits k (le 2 r.bytes 16))
      → sequence_hazards p k a ≡ []
  unfolding sequence_hazards header_of
  sequence_some p k (refuses q) h = refl
  sequence_some p k (gives b) h = some _ _ (is_fitting k (le 2 b.bytes 16) (h b refl))

  entries_none : (ps : List (Outcome Placed)) → entries_hazards s n look ps ≡ [] → Each NamedWell ps
  unfolding entries_hazards entry_hazards NamedWell
  entries_none [] e = tt
  entries_none (refuses r ∷ ps) e = tt
  entries_none (gives p ∷ ps) e = (
    sequence_none p (le 2 s (p.place + 22)) (lookup_of s n look p.entry.file p.place) (front _ _ e),
    entries_none ps (rest _ _ e),
  )

  entries_some : (ps : List (Outcome Placed)) → Each NamedWell ps → entries_hazards s n look ps ≡ []
  unfolding entries_hazards entry_hazards NamedWell
  entries_some [] h = refl
  entries_some (refuses r ∷ ps) h = refl
  entries_some (gives p ∷ ps) h =
      both_none _ _ (sequence_some p (le 2 s (p.place + 22)) (lookup_of s n look p.entry.file p.place) h.0)
      (entries_some ps h.1)

  -- a record that the lists refer to
  Back : RecordNumber → Type 0
  Back m = (r : Lent) → lookup_of s n look m 0 ≡ gives r → RefersBack s n r.bytes

  found_none : (a : Outcome Lent) → found_hazards s n a ≡ [] → (r : Lent) → a ≡ gives r → RefersBack s n r.bytes
  unfolding found_hazards
  found_none (refuses q) e r g = absurd (cc)
  found_none (gives b) e r g =
      let x = record_none r.bytes r.number (is_back s n (base_reference_of r.bytes))
      (ap (λ (a : Outcome Lent). found_hazards s n a) (sym g) ∙ e) in
      back s n r.bytes x.0 x.1

  found_some : (a : Outcome Lent) → ((r : Lent) → a ≡ gives r → RefersBack s n r.bytes)
      → found_hazards s n a ≡ []
  unfolding found_hazards
  found_some (refuses q) h = refl
  found_some (gives b) h =
      let x = h b refl in
      record_some b.bytes b.number _ (is_used b.bytes x.used) (is_back_to s n b.bytes x)

  numbers_none : (ms : List RecordNumber) → flat_map (number_hazards s n look) ms ≡ [] → AllByRecursion Back ms
  unfolding number_hazards Back
  numbers_none [] e = tt
  numbers_none (m ∷ ms) e =
      let f = sym (flat_map-cons (number_hazards s n look) m ms) ∙ e in
      (found_none (lookup_of s n look m 0) (front _ _ f), numbers_none ms (rest _ _ f))

  numbers_some : (ms : List RecordNumber) → AllByRecursion Back ms → flat_map (number_hazards s n look) ms ≡ []
  unfolding number_hazards Back
  numbers_some [] h = refl
  numbers_some (m ∷ ms) h =
      flat_map-cons (number_hazards s n look) m ms
      ∙ both_none _ _ (found_some (lookup_of s n look m 0) h.0) (numbers_some ms h.1)

pub no_hazards : NoHazards
unfolding hazards_of listed_hazards referred_hazards NamedWell Back
no_hazards s n look = (
  λ e.
      let b = record_none s n (is_zero (base_reference_of s)) (front _ _ e) in
      let l = rest (record_hazards s n (is_zero (base_reference_of s))) _ e in
      record {
        base = record { used = used s b.0; base = no_base s b.1 };
        entries = entries_none s n look (all_placed s n) (front _ _ l);
        referred = All-from_recursion (Back s n look) (references_of s n).numbers
            (numbers_none s n look (references_of s n).numbers (rest _ _ l));
      },
  λ h.
      both_none _ _
      (record_some s n (is_zero (base_reference_of s)) (is_used s h.base.used) (has_no_base s h.base.base))
      (both_none _ _ (entries_some s n look (all_placed s n) h.entries)
      (numbers_some s n look (references_of s n).numbers
      (recursion_from_All (Back s n look) (references_of s n).numbers h.referred))),
)
