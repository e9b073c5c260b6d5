-- Records that are alike in the used part have the same attributes: a step that gives one asks for nothing behind it.
use Rattle.std.proofs.Common.{ℕ, zero, suc, ◌+◌, ◌-◌, ◌≤◌, ◌≡◌, List, ◌∷◌, length, refl, sym, ap, ◌∙◌, arith}
use Rattle.std.proofs.lemmas.Bool.Decides.{nat_tests}
use Rattle.fields.specs.Le.{le}
use Rattle.fields.specs.Answer.{Answer, gives, ends, refuses}
use Rattle.fields.specs.Trail.{behind, run, trail}
use Rattle.fields.specs.declared.RecordNumber.{RecordNumber}
use Rattle.record.specs.Header.{first_attribute, used_size}
use Rattle.record.specs.Attribute.{attribute_at, checked_at}
use Rattle.record.specs.Walk.{step_at, walk_from, attributes_of}
use Rattle.record.specs.Laws.{given, UsedAlike, TailsGiveNothing}
use Rattle.record.specs.declared.layout.Attribute.{Attribute}
use Rattle.record.proofs.Given.{of-step}

module _ (s t : List ℕ) (alike : UsedAlike s t) where
  pub le-same : (w i : ℕ) → i + w ≤ used_size s → le w s i ≡ le w t i
  unfolding le
  le-same zero i l = refl
  le-same (suc w) i l = rw (alike.bytes i (omega arith), le-same w (i + 1) (omega arith)) refl

  used-same : used_size s ≡ used_size t
  unfolding used_size
  used-same =
      let l = alike.long in
      let r = alike.reach in
      let e = le-same 4 24 (omega arith) in
      grind (arith, nat_tests)

  first-same : first_attribute s ≡ first_attribute t
  unfolding first_attribute
  first-same = let r = alike.reach in rw (alike.long, le-same 2 20 (omega arith)) refl

  header-same : (at : ℕ) → at + 16 ≤ used_size s → attribute_at s at ≡ attribute_at t at
  unfolding attribute_at
  header-same at l =
      rw (
        le-same 4 at (omega arith),
        le-same 4 (at + 4) (omega arith),
        alike.bytes (at + 8) (omega arith),
        alike.bytes (at + 9) (omega arith),
        le-same 2 (at + 10) (omega arith),
        le-same 2 (at + 12) (omega arith),
        le-same 2 (at + 14) (omega arith),
      ) refl

  step-same : (n : RecordNumber) (at : ℕ) → at + 16 ≤ used_size s → step_at s n at ≡ step_at t n at
  unfolding step_at checked_at
  step-same n at l = rw (alike.long, le-same 4 at (omega arith), header-same at l, used-same) refl

  gives-same : (n : RecordNumber) (at : ℕ) (h : Attribute) → step_at s n at ≡ gives h → step_at t n at ≡ gives h
  gives-same n at h e =
      let w = of-step s n at h e in
      let l = w.least in
      let u = w.used in
      sym (step-same n at (omega arith)) ∙ e

turned : (s t : List ℕ) → UsedAlike s t → UsedAlike t s
turned s t a =
    let u = used-same s t a in
    let r = a.reach in
    record { long = sym a.long; reach = omega arith; bytes = λ k l. sym (a.bytes k (omega arith)) }

module _ (s t : List ℕ) (n : RecordNumber) (alike : UsedAlike s t) where
  behind-same : (f at : ℕ) → ((b : ℕ) → given (run (step_at s n) (λ h. h.length) f b)
      ≡ given (run (step_at t n) (λ h. h.length) f b))
      → (a b : Answer Attribute) → step_at s n at ≡ a → step_at t n at ≡ b
      → given (behind (step_at s n) (λ h. h.length) (run (step_at s n) (λ h. h.length) f) at a)
      ≡ given (behind (step_at t n) (λ h. h.length) (run (step_at t n) (λ h. h.length) f) at b)
  unfolding behind given
  behind-same f at ih (gives h) b d e =
      let same : b ≡ gives h = sym e ∙ gives-same s t alike n at h d in
      rw same (ap (λ (hs : List Attribute). h ∷ hs) (ih (at + h.length)))
  behind-same f at ih ends (gives g) d e = let back = gives-same t s (turned s t alike) n at g e in absurd (cc)
  behind-same f at ih ends ends d e = refl
  behind-same f at ih ends (refuses q) d e = refl
  behind-same f at ih (refuses r) (gives g) d e =
      let back = gives-same t s (turned s t alike) n at g e in absurd (cc)
  behind-same f at ih (refuses r) ends d e = refl
  behind-same f at ih (refuses r) (refuses q) d e = refl

  run-same : (f at : ℕ) → given (run (step_at s n) (λ h. h.length) f at)
      ≡ given (run (step_at t n) (λ h. h.length) f at)
  unfolding run given
  run-same zero at = refl
  run-same (suc f) at = behind-same f at (run-same f) (step_at s n at) (step_at t n at) refl refl

pub tails-give-nothing : TailsGiveNothing
unfolding attributes_of walk_from trail
tails-give-nothing s t n a =
    rw (sym (first-same s t a), sym a.long)
    (run-same s t n a (suc (length s - first_attribute s)) (first_attribute s))
