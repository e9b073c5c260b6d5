-- The raw walk is a trail.
use Rattle.std.proofs.Common.{ℕ, suc, ◌+◌, ◌-◌, ◌≡◌, List, [], ◌∷◌, length, arith}
use Rattle.fields.specs.Answer.{gives, ends, refuses}
use Rattle.fields.specs.Trail.{trail}
use Rattle.fields.specs.declared.RecordNumber.{RecordNumber}
use Rattle.fields.specs.declared.Refusal.{Refusal}
use Rattle.record.specs.Walk.{step_at, walk_from}
use Rattle.record.specs.Laws.{WalksEnd}
use Rattle.record.specs.declared.layout.Attribute.{Attribute}
use Rattle.record.proofs.Given.{of-step, room}
use Rattle.record.proofs.Trails as trails

module _ (s : List ℕ) (n : RecordNumber) where
  pub moves : (at : ℕ) (h : Attribute) → step_at s n at ≡ gives h → trails.Moves (length s) at h.length
  moves at h e = let k = of-step s n at h e in record { least = k.least; most = k.most }

  pub moved : (at : ℕ) (h : Attribute) → gives h ≡ step_at s n at
      → walk_from s n at ≡ gives h ∷ walk_from s n (at + h.length)
  unfolding walk_from
  moved at h e = trails.moved (step_at s n) (λ h. h.length) (length s) moves at h e

  pub ended : (at : ℕ) → ends ≡ step_at s n at → walk_from s n at ≡ []
  unfolding walk_from
  ended at e = trails.ended (step_at s n) (λ h. h.length) (length s) moves at e

  pub refused : (at : ℕ) (r : Refusal) → refuses r ≡ step_at s n at → walk_from s n at ≡ refuses r ∷ []
  unfolding walk_from
  refused at r e = trails.refused (step_at s n) (λ h. h.length) (length s) moves at r e

pub walks-end : WalksEnd
unfolding walk_from trail
walks-end s n at f l =
    trails.enough (step_at s n) (λ h. h.length) (length s) (moves s n) f (suc (length s - at)) at l (omega arith)

pub ruleset walks = (moved, ended, refused, room)
