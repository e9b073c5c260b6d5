-- A reader's takes are the raw walk, by induction, a take at a time; and what stops the walk stops the reader where
-- it stands.
use Rattle.std.proofs.Common.{ℕ, zero, suc, ◌+◌, ◌≤◌, ◌≡◌, List, refl, sym, ap, ◌∙◌, arith}
use Rattle.std.specs.Prelude.{Option, Result}
use Rattle.fields.specs.Answer.{Answer, ends, refuses}
use Rattle.fields.specs.declared.RecordNumber.{RecordNumber}
use Rattle.fields.specs.declared.Refusal.{Refusal}
use Rattle.record.specs.Walk.{step_at}
use Rattle.record.specs.Reader.{place_after, answer_of}
use Rattle.record.specs.Places.{place_of}
use Rattle.record.specs.Laws.{Taken, TakesWalk, PlacesRise, Still, EndsStay}
use Rattle.record.specs.Laws.{RefusalsStay, EndsRest, RefusalsRest}
use Rattle.record.specs.declared.Record.{Record}
use Rattle.record.specs.declared.layout.Attribute.{Attribute}
use Rattle.record.specs.declared.reader.Reader.{Reader}
use Rattle.record.proofs.Given.{of-step, inside}
use Rattle.record.proofs.Takes.{answer_at, place_first, place-suc}

made : Record → ℕ → Reader
made w p = record { within = w; at = p }

-- readers with the same fields are the same
same : (r t : Reader) → r.within ≡ t.within → r.at ≡ t.at → r ≡ t
unfolding made
same r t w p =
    let e : made r.within r.at ≡ made t.within t.at = ap (λ x. made x r.at) w ∙ ap (made t.within) p in
    e

pub end-rests : EndsRest
unfolding place_after
end-rests q r e = same r q e.within (e.place ∙ ap (place_after q.at) (sym e.answer))

pub refusal-rests : RefusalsRest
unfolding place_after
refusal-rests q r f e = same r q e.within (e.place ∙ ap (place_after q.at) (sym e.answer))

module _ (s : List ℕ) (n : RecordNumber) where
  placed-after : (k : ℕ) → place_of s n (suc k) ≡ place_after (place_of s n k) (answer_of s n k)
  placed-after k = place-suc s n k ∙ ap (place_after _) (sym (answer_at s n k))

  still : (k : ℕ) (a : Answer Attribute) → ((p : ℕ) → place_after p a ≡ p) → answer_of s n k ≡ a → (j : ℕ)
      → Still s n k a j
  still k a f e zero =
      let z : 0 + k ≡ k = omega arith in
      record { answer = ap (answer_of s n) z ∙ e; place = ap (place_of s n) z }
  still k a f e (suc j) =
      let i = still k a f e j in
      let z : suc j + k ≡ suc (j + k) = omega arith in
      let p = ap (place_of s n) z ∙ placed-after (j + k) ∙ ap (place_after (place_of s n (j + k))) i.answer
      ∙ f (place_of s n (j + k)) ∙ i.place in
      record { answer = answer_at s n (suc j + k) ∙ ap (step_at s n) p ∙ sym (answer_at s n k) ∙ e; place = p }

pub places-rise : PlacesRise
unfolding place_after
places-rise s n k h e =
    let g = of-step s n (place_of s n k) h (sym (answer_at s n k) ∙ e) in
    record {
      place = g.stands;
      next = placed-after s n k ∙ ap (place_after (place_of s n k)) e ∙ ap (λ (p : ℕ). p + h.length) (sym g.stands);
      inside = inside g;
    }

pub ends-stay : EndsStay
unfolding place_after
ends-stay s n k e j = still s n k ends (λ p. refl) e j

pub refusals-stay : RefusalsStay
unfolding place_after
refusals-stay s n k r e j = still s n k (refuses r) (λ p. refl) e j

module _ (q : ℕ → Reader) (x : ℕ → Result (Option Attribute) Refusal) (m : ℕ) (t : Taken q x m) where
  record Kept (k : ℕ) : Type 0 where
    within : (q k).within ≡ (q 0).within
    place : (q k).at ≡ place_of (q 0).within.bytes.now (q 0).within.number k

  step-same : (k : ℕ) → Kept k
      → step_at (q k).within.bytes.now (q k).within.number (q k).at
      ≡ answer_of (q 0).within.bytes.now (q 0).within.number k
  step-same k h =
      ap (λ (w : Record). step_at w.bytes.now w.number (q k).at) h.within
      ∙ ap (step_at (q 0).within.bytes.now (q 0).within.number) h.place ∙ sym (answer_at _ _ k)

  kept : (k : ℕ) → k ≤ m → Kept k
  kept zero l = record { within = refl; place = t.first ∙ sym (place_first _ _) }
  kept (suc k) l =
      let i = kept k (omega arith) in
      let n = t.next k (omega arith) in
      record {
        within = n.within ∙ i.within;
        place = n.place
            ∙ ap (λ (p : ℕ). place_after p (step_at (q k).within.bytes.now (q k).within.number (q k).at)) i.place
            ∙ ap (place_after _) (step-same k i) ∙ sym (placed-after _ _ k);
      }

pub takes-walk : TakesWalk
takes-walk q x m t = record {
  answers = λ k l. (t.next k l).answer ∙ step-same q x m t k (kept q x m t k (omega arith));
  within = λ k l. (kept q x m t k l).within;
  places = λ k l. (kept q x m t k l).place;
}
