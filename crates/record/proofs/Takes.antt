-- The raw walk taken one answer at a time: the answer numbered k is that of the step at the place numbered k, and
-- each place is the one after the answer before it.
use Rattle.std.proofs.Common.{ℕ, zero, suc, ◌+◌, ◌≡◌, List, refl, sym, ap, ◌∙◌, add-one}
use Rattle.fields.specs.Answer.{Answer, gives, ends, refuses}
use Rattle.fields.specs.declared.RecordNumber.{RecordNumber}
use Rattle.record.specs.Header.{first_attribute}
use Rattle.record.specs.Walk.{step_at, walk_from, attributes_of}
use Rattle.record.specs.Reader.{place_after, nth, answer_of}
use Rattle.record.specs.Places.{past, place_of}
use Rattle.record.specs.declared.layout.Attribute.{Attribute}
use Rattle.record.proofs.Walks.{moved, ended, refused}

module _ (s : List ℕ) (n : RecordNumber) where
  abbrev on : ℕ → ℕ
  on at = place_after at (step_at s n at)

  -- the answer and the place numbered k of the walk from a place on
  abbrev answer : ℕ → ℕ → Answer Attribute
  answer k at = nth (walk_from s n at) k

  abbrev spot : ℕ → ℕ → ℕ
  spot k at = past (walk_from s n at) at k

  first-by : (at : ℕ) (a : Answer Attribute) → step_at s n at ≡ a → (answer 0 at ≡ a) × (spot 0 at ≡ at)
  unfolding nth past
  first-by at (gives h) e = rw (moved s n at h (sym e)) (refl, refl)
  first-by at ends e = rw (ended s n at (sym e)) (refl, refl)
  first-by at (refuses r) e = rw (refused s n at r (sym e)) (refl, refl)

  next-by : (at k : ℕ) (a : Answer Attribute) → step_at s n at ≡ a
      → (answer (suc k) at ≡ answer k (place_after at a)) × (spot (suc k) at ≡ spot k (place_after at a))
  unfolding nth past place_after
  next-by at k (gives h) e = rw (moved s n at h (sym e)) (refl, refl)
  next-by at k ends e = rw (ended s n at (sym e)) (refl, refl)
  next-by at k (refuses r) e = rw (refused s n at r (sym e)) (refl, refl)

  first : (at : ℕ) → (answer 0 at ≡ step_at s n at) × (spot 0 at ≡ at)
  first at = first-by at (step_at s n at) refl

  next : (at k : ℕ) → (answer (suc k) at ≡ answer k (on at)) × (spot (suc k) at ≡ spot k (on at))
  next at k = next-by at k (step_at s n at) refl

  there : (k at : ℕ) → answer k at ≡ step_at s n (spot k at)
  there zero at = (first at).0 ∙ ap (step_at s n) (sym (first at).1)
  there (suc k) at = (next at k).0 ∙ there k (on at) ∙ ap (step_at s n) (sym (next at k).1)

  onward : (k at : ℕ) → spot (suc k) at ≡ on (spot k at)
  onward zero at = (next at 0).1 ∙ (first (on at)).1 ∙ ap on (sym (first at).1)
  onward (suc k) at = (next at (suc k)).1 ∙ onward k (on at) ∙ ap on (sym (next at k).1)

  pub answer_at : (k : ℕ) → answer_of s n k ≡ step_at s n (place_of s n k)
  unfolding answer_of attributes_of place_of
  answer_at k = there k (first_attribute s)

  pub place_first : place_of s n 0 ≡ first_attribute s
  unfolding place_of attributes_of
  place_first = (first (first_attribute s)).1

  pub place-suc : (k : ℕ) → place_of s n (suc k) ≡ place_after (place_of s n k) (step_at s n (place_of s n k))
  unfolding place_of attributes_of
  place-suc k = onward k (first_attribute s)

  pub place_next : (k : ℕ) → place_of s n (k + 1) ≡ place_after (place_of s n k) (step_at s n (place_of s n k))
  place_next k = rw add-one (place-suc k)

pub ruleset places = (place_first, place_next, answer_at)
