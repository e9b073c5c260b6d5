-- The first of a trail stands where the trail begins, and the others are the trail from behind it.
use Rattle.std.proofs.Common.{ℕ, ◌+◌, ◌≤◌, ◌≡◌, List, ◌∷◌, length, refl, sym, ap, subst, ◌∙◌}
use Rattle.fields.specs.Answer.{Answer, gives, ends, refuses, Outcome}
use Rattle.fields.specs.Trail.{trail}
use Rattle.fields.specs.declared.RecordNumber.{RecordNumber}
use Rattle.record.specs.Inside.{Inside}
use Rattle.record.specs.Walk.{step_at, walk_from}
use Rattle.record.specs.declared.layout.Attribute.{Attribute}
use Rattle.record.proofs.Given.{of-step, inside}
use Rattle.record.proofs.Trails as trails
use Rattle.record.proofs.Walks.{moves}

module _ {A : Type 0} (step : ℕ → Answer A) (size : A → ℕ) (m : ℕ)
    (moves : (at : ℕ) (x : A) → step at ≡ gives x → trails.Moves m at (size x)) where
  pub record First (at : ℕ) (x : A) (xs : List (Outcome A)) : Type 0 where
    pub stands : step at ≡ gives x
    pub tail : xs ≡ trail step size m (at + size x)

  by-step : (at : ℕ) (x : A) (xs : List (Outcome A)) (a : Answer A) → step at ≡ a
      → gives x ∷ xs ≡ trail step size m at → First at x xs
  by-step at x xs (gives y) q e =
      let t = e ∙ trails.moved step size m moves at y (sym q) in
      let same : y ≡ x = cc in
      record { stands = q ∙ ap gives same; tail = subst (λ (v : A). xs ≡ trail step size m (at + size v)) same (cc) }
  by-step at x xs ends q e = let t = e ∙ trails.ended step size m moves at (sym q) in absurd (cc)
  by-step at x xs (refuses r) q e = let t = e ∙ trails.refused step size m moves at r (sym q) in absurd (cc)

  pub first : (at : ℕ) (x : A) (xs : List (Outcome A)) → gives x ∷ xs ≡ trail step size m at → First at x xs
  first at x xs e = by-step at x xs (step at) refl e

module _ (s : List ℕ) (n : RecordNumber) where
  pub record Raw (at : ℕ) (h : Attribute) (hs : List (Outcome Attribute)) : Type 0 where
    pub stands : step_at s n at ≡ gives h
    pub tail : hs ≡ walk_from s n (at + h.length)
    pub least : 16 ≤ h.length
    pub most : at + h.length ≤ length s
    pub inside : Inside s h

  pub peel_raw : (at : ℕ) (h : Attribute) (hs : List (Outcome Attribute)) → gives h ∷ hs ≡ walk_from s n at
      → Raw at h hs
  unfolding walk_from
  peel_raw at h hs e =
      let f = first (step_at s n) (λ h. h.length) (length s) (moves s n) at h hs e in
      let k = of-step s n at h f.stands in
      record { stands = f.stands; tail = f.tail; least = k.least; most = k.most; inside = inside k }
