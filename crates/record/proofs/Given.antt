-- An attribute that checks 3 to 5 and 28 give is the one that stands there, is at least 16 long and ends inside the
-- record and its used part.
use Rattle.std.proofs.Common.{ℕ, ◌+◌, ◌-◌, ◌≤◌, ◌≡◌, List, length, refl, sym, ap, ◌∙◌, arith}
use Rattle.std.proofs.lemmas.Bool.Decides.{nat_tests}
use Rattle.fields.specs.Answer.{gives}
use Rattle.fields.specs.declared.RecordNumber.{RecordNumber}
use Rattle.record.specs.Header.{used_size}
use Rattle.record.specs.Attribute.{attribute_at, checked_at}
use Rattle.record.specs.Inside.{Inside}
use Rattle.record.specs.Walk.{step_at}
use Rattle.record.specs.Laws.{Stands}
use Rattle.record.specs.declared.layout.Attribute.{Attribute}

pub stands_at : (s : List ℕ) (at : ℕ) → (attribute_at s at).offset ≡ at
unfolding attribute_at
stands_at s at = refl

-- by checks 3, 4, 5 and 28
pub of-checked : (s : List ℕ) (n : RecordNumber) (at : ℕ) (h : Attribute) → checked_at s n at ≡ gives h → Stands s at h
unfolding checked_at
of-checked s n at h e =
    let k : h ≡ attribute_at s at = grind (arith, nat_tests) in
    record {
      is = k;
      stands = ap (λ (x : Attribute). x.offset) k ∙ stands_at s at;
      least = grind (arith, nat_tests);
      most = grind (arith, nat_tests);
      used = grind (arith, nat_tests);
    }

-- by a step of the raw walk
pub of-step : (s : List ℕ) (n : RecordNumber) (at : ℕ) (h : Attribute) → step_at s n at ≡ gives h → Stands s at h
unfolding step_at
of-step s n at h e =
    let t : checked_at s n at ≡ gives h = grind (arith, nat_tests) in
    of-checked s n at h t

pub inside : {s : List ℕ} {at : ℕ} {h : Attribute} → Stands s at h → Inside s h
inside g = record { least = g.least; most = rw g.stands g.most; used = rw g.stands g.used }

-- the next place lies in the record
pub room : (s : List ℕ) (n : RecordNumber) (at : ℕ) (h : Attribute) → gives h ≡ step_at s n at
    → at + h.length ≤ length s
room s n at h e = (of-step s n at h (sym e)).most

-- of one that was read, by what its tests left
pub placed : (s : List ℕ) (at : ℕ) (h : Attribute) → h ≡ attribute_at s at → 16 ≤ h.length
    → h.length ≤ length s - at → at + h.length ≤ used_size s → Inside s h
placed s at h e l m u =
    let o = ap (λ (x : Attribute). x.offset) e ∙ stands_at s at in
    record { least = l; most = omega arith; used = omega arith }
