-- A refusal of the walk's own, of an attribute, an entry or a list in the base record, is told of that record and is
-- not 18.
use Rattle.std.proofs.Common.{ℕ, zero, suc, ◌+◌, ◌-◌, ◌≡◌, List, [], ◌∷◌, length, ltb, eqb, refl}
use Rattle.fields.specs.Answer.{Outcome, Answer, gives, ends, refuses, refusal, ◌⟫◌, unended}
use Rattle.fields.specs.declared.Cause.{Cause}
use Rattle.fields.specs.declared.Cause.TheVariants.{EntryCut, EntryShort, EntryNameOutside, EntryNameCut}
use Rattle.fields.specs.declared.Cause.TheVariants.{AttributeCut, AttributeShort, AttributeLong, HeaderCut}
use Rattle.fields.specs.declared.Cause.TheVariants.{ValueOffset, ValueEnd, ListNotResident, NoAttribute}
use Rattle.fields.specs.declared.Cause.TheVariants.{AttributeStale}
use Rattle.fields.specs.Known.{end_marker}
use Rattle.fields.specs.Le.{le}
use Rattle.fields.specs.Trail.{behind, run, trail}
use Rattle.fields.specs.declared.RecordNumber.{RecordNumber}
use Rattle.fields.proofs.Cases.{both}
use Rattle.list.specs.Entry.{entry_of, entry_at, named_size, name_outside, name_cut}
use Rattle.record.specs.Header.{used_size}
use Rattle.record.specs.Attribute.{attribute_at, checked_at}
use Rattle.record.specs.Walk.{step_at, walk_from}
use Rattle.record.specs.Value.{full_in, resident_in, list_after, list_in}
use Rattle.record.specs.declared.layout.Attribute.{Attribute}
use Rattle.record.specs.declared.layout.ResidentHeader.{ResidentHeader}
use Rattle.record.specs.declared.layout.FullHeader.{FullHeader}
use Rattle.record.specs.declared.layout.FullHeader.TheVariants as header
use Rattle.items.specs.State.{list_at, rest_of}
use Rattle.items.specs.Items.{entries_of}
use Rattle.bound.specs.Listing.{OfBase}

module _ (n : RecordNumber) where
  abbrev pub Own : {A : Type 0} → Outcome A → Type 0
  Own (gives x) = Unit {0}
  Own (refuses r) = OfBase n r

  -- the same of a step that may end
  abbrev OwnStep : {A : Type 0} → Answer A → Type 0
  OwnStep (gives x) = Unit {0}
  OwnStep ends = Unit {0}
  OwnStep (refuses r) = OfBase n r

  own-step : {A : Type 0} (a : Outcome A) → Own a → OwnStep (unended a)
  own-step (gives x) o = tt
  own-step (refuses r) o = o

  abbrev pub AllOwn : {A : Type 0} → List (Outcome A) → Type 0
  AllOwn [] = Unit {0}
  AllOwn (a ∷ xs) = Own a × AllOwn xs

  pub of-base : (k : Cause) (place : ℕ) → (k ≡ NoAttribute → ⊥) → OfBase n (refusal k n place)
  of-base k place f = record { file = refl; listed = f }

  module _ {A : Type 0} (step : ℕ → Answer A) (size : A → ℕ) (own : (at : ℕ) → OwnStep (step at)) where
    by-answer : (k : ℕ → List (Outcome A)) → ((at : ℕ) → AllOwn (k at)) → (at : ℕ) (a : Answer A) → OwnStep a
        → AllOwn (behind step size k at a)
    unfolding behind
    by-answer k f at (gives x) o = (tt, f (at + size x))
    by-answer k f at ends o = tt
    by-answer k f at (refuses r) o = (o, tt)

    run-own : (f at : ℕ) → AllOwn (run step size f at)
    unfolding run
    run-own zero at = tt
    run-own (suc f) at = by-answer (run step size f) (run-own f) at (step at) (own at)

    pub trail-own : (m at : ℕ) → AllOwn (trail step size m at)
    unfolding trail
    trail-own m at = run-own (suc (m - at)) at

  -- the checks of one entry
  entry-own : (rest : List ℕ) (place : ℕ) → OwnStep (entry_of rest n place)
  unfolding entry_of
  entry-own rest place =
      let f = λ (k : Cause) (h : k ≡ NoAttribute → ⊥). of-base k place h in
      both OwnStep (eqb (length rest) 0) ends _ tt
      (both OwnStep (ltb (length rest) 26) _ _ (f EntryCut (λ q. cc))
      (both OwnStep (ltb (entry_at rest).length (named_size (entry_at rest).name_units)) _ _
      (f EntryShort (λ q. cc))
      (both OwnStep (name_outside (entry_at rest)) _ _ (f EntryNameOutside (λ q. cc))
      (both OwnStep (name_cut (entry_at rest) (length rest)) _ _ (f EntryNameCut (λ q. cc))
      (both OwnStep (ltb (length rest) (entry_at rest).length) ends (gives (entry_at rest)) tt tt)))))

  after : {A B : Type 0} (a : Outcome A) (k : A → Outcome B) → Own a → ((x : A) → Own (k x)) → Own (a ⟫ k)
  after (gives x) k o f = f x
  after (refuses r) k o f = o

module _ (s : List ℕ) (n : RecordNumber) where
  pub entries-own : (to from : ℕ) → AllOwn n (entries_of s n to from)
  unfolding entries_of
  entries-own to from =
      trail-own n (λ at. entry_of (rest_of s (list_at at to)) n at) (λ e. e.length)
      (λ at. entry-own n (rest_of s (list_at at to)) at) to from

  -- the checks of an attribute
  checked-own : (at : ℕ) → Own n (checked_at s n at)
  unfolding checked_at
  checked-own at =
      let f = λ (k : Cause) (h : k ≡ NoAttribute → ⊥). of-base n k at h in
      both (Own n) (ltb (length s - at) 16) _ _ (f AttributeCut (λ q. cc))
      (both (Own n) (ltb (attribute_at s at).length 16) _ _ (f AttributeShort (λ q. cc))
      (both (Own n) (ltb (length s - at) (attribute_at s at).length) _ _ (f AttributeLong (λ q. cc))
      (both (Own n) (ltb (used_size s) (at + (attribute_at s at).length)) _ _ (f AttributeStale (λ q. cc)) tt)))

  step-own : (at : ℕ) → OwnStep n (step_at s n at)
  unfolding step_at
  step-own at =
      both (OwnStep n) (ltb (length s - at) 4) ends _ tt
      (both (OwnStep n) (eqb (le 4 s at) end_marker) ends _ tt
      (own-step n (checked_at s n at) (checked-own at)))

  pub walk-own : (at : ℕ) → AllOwn n (walk_from s n at)
  unfolding walk_from
  walk-own at = trail-own n (step_at s n) (λ h. h.length) step-own (length s) at

  -- and of one that opens a list
  module _ (h : Attribute) where
    f : (k : Cause) → (k ≡ NoAttribute → ⊥) → OfBase n (refusal k n h.offset)
    f k o = of-base n k h.offset o

    full-own : Own n (full_in s n h)
    unfolding full_in
    full-own =
        both (Own n) h.resident _ _
        (both (Own n) (ltb h.length 24) _ _ (f HeaderCut (λ q. cc)) tt)
        (both (Own n) (ltb h.length 64) _ _ (f HeaderCut (λ q. cc)) tt)

    value-own : (v : ResidentHeader) → Own n (resident_in s n h v)
    unfolding resident_in
    value-own v =
        both (Own n) (ltb h.length v.value_offset) _ _ (f ValueOffset (λ q. cc))
        (both (Own n) (ltb h.length (v.value_offset + v.value_length)) _ _ (f ValueEnd (λ q. cc)) tt)

    after-own : (x : FullHeader) → Own n (list_after s n h x)
    unfolding list_after
    after-own (header.Resident v) = after n (resident_in s n h v) _ (value-own v) (λ p. tt)
    after-own (header.NonResident v) = f ListNotResident (λ q. cc)

    pub list-own : Own n (list_in s n h)
    unfolding list_in
    list-own = after n (full_in s n h) (list_after s n h) full-own after-own
