-- A search over the raw walk reads no more attributes than fit into what is left, and what it finds lies inside the
-- record.
use Rattle.std.proofs.Common.{ℕ, zero, suc, ◌+◌, ◌-◌, ◌*◌, ◌≤◌, ◌≡◌, List, ◌∷◌, length, eqb, refl}
use Rattle.std.proofs.Common.{ap, subst, ◌∙◌, arith}
use Rattle.std.specs.Prelude.{◌&&◌}
use Rattle.fields.specs.Answer.{Answer, gives, ends, refuses, Outcome}
use Rattle.fields.specs.Known.{known_type}
use Rattle.fields.specs.Trail.{behind, run, trail}
use Rattle.fields.specs.declared.RecordNumber.{RecordNumber}
use Rattle.fields.proofs.Cases.{both}
use Rattle.fields.specs.declared.Refusal.{Refusal}
use Rattle.record.specs.Inside.{Inside}
use Rattle.record.specs.Header.{first_attribute}
use Rattle.record.specs.Walk.{step_at, walk_from, attributes_of}
use Rattle.record.specs.Search.{Searched, find_in}
use Rattle.record.specs.declared.layout.Attribute.{Attribute}
use Rattle.record.proofs.Given.{of-step, inside}

module _ (s : List ℕ) (n k : RecordNumber) (ty instance : ℕ) (miss : Refusal) where
  abbrev found : List (Outcome Attribute) → Searched
  found xs = find_in k ty instance miss xs

  abbrev walked : ℕ → ℕ → List (Outcome Attribute)
  walked f at = run (step_at s n) (λ h. h.length) f at

  few-behind : (f at : ℕ) → ((b : ℕ) → 16 * length (found (walked f b)).read ≤ length s - b)
      → (a : Answer Attribute) → step_at s n at ≡ a
      → 16 * length (found (behind (step_at s n) (λ h. h.length) (walked f) at a)).read ≤ length s - at
  unfolding behind find_in
  few-behind f at ih (gives h) e =
      let w = of-step s n at h e in let l = w.least in let m = w.most in let q = ih (at + h.length) in
      both (λ (x : Searched). 16 * length (h ∷ x.read) ≤ length s - at) (known_type h.ty) _ _
      (both (λ (x : Searched). 16 * length (h ∷ x.read) ≤ length s - at) (eqb h.ty ty && eqb h.instance instance) _ _
      (omega arith) (omega arith))
      (omega arith)
  few-behind f at ih ends e = omega arith
  few-behind f at ih (refuses r) e = omega arith

  few-run : (f at : ℕ) → 16 * length (found (walked f at)).read ≤ length s - at
  unfolding run find_in
  few-run zero at = omega arith
  few-run (suc f) at = few-behind f at (few-run f) (step_at s n at) refl

  -- what holds of each attribute that a step gives holds of the one found
  module _ (P : Attribute → Type 0) (p : (at : ℕ) (g : Attribute) → step_at s n at ≡ gives g → P g) where
    found-behind : (f at : ℕ) → ((b : ℕ) (h : Attribute) → gives h ≡ (found (walked f b)).answer → P h)
        → (a : Answer Attribute) → step_at s n at ≡ a
        → (h : Attribute) → gives h ≡ (found (behind (step_at s n) (λ h. h.length) (walked f) at a)).answer → P h
    unfolding behind find_in
    found-behind f at ih (gives g) e h q =
        both (λ (x : Searched). gives h ≡ x.answer → P h) (known_type g.ty) _ _
        (both (λ (x : Searched). gives h ≡ x.answer → P h) (eqb g.ty ty && eqb g.instance instance) _ _
        (λ r. let same : g ≡ h = cc in subst P same (p at g e))
        (ih (at + g.length) h))
        (λ r. absurd (cc)) q
    found-behind f at ih ends e h q = absurd (cc)
    found-behind f at ih (refuses r) e h q = absurd (cc)

    found-run : (f at : ℕ) (h : Attribute) → gives h ≡ (found (walked f at)).answer → P h
    unfolding run find_in
    found-run zero at h q = absurd (cc)
    found-run (suc f) at h q = found-behind f at (found-run f) (step_at s n at) refl h q

    found-so : (h : Attribute) → gives h ≡ (found (attributes_of s n)).answer → P h
    unfolding attributes_of walk_from trail
    found-so h q = found-run _ _ h q

  pub few : 16 * length (found (attributes_of s n)).read ≤ length s
  unfolding attributes_of walk_from trail
  few = let q = few-run (suc (length s - first_attribute s)) (first_attribute s) in omega arith

  pub found_inside : (h : Attribute) → gives h ≡ (found (attributes_of s n)).answer → Inside s h
  found_inside = found-so (Inside s) (λ at g e. inside (of-step s n at g e))

  pub found-stands : (h : Attribute) → gives h ≡ (found (attributes_of s n)).answer → step_at s n h.offset ≡ gives h
  found-stands =
      found-so (λ h. step_at s n h.offset ≡ gives h) (λ at g e. ap (step_at s n) (of-step s n at g e).stands ∙ e)

pub ruleset searches = (few, found_inside)
