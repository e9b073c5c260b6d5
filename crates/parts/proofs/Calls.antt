-- A call for parts: check 22, and then the parts by its list, if it has one.
use Rattle.std.proofs.Common.{ℕ, ◌≡◌, List, sym, refl, ◌∙◌}
use Rattle.std.specs.Prelude.{Option, None}
use Rattle.fields.specs.Answer.{gives, refuses}
use Rattle.fields.specs.declared.RecordNumber.{RecordNumber}
use Rattle.fields.specs.declared.Refusal.{Refusal}
use Rattle.items.specs.State.{inside_of}
use Rattle.items.specs.declared.walk.Rest.{Rest}
use Rattle.items.proofs.Bounds.{passed, outside_by, lies_inside}
use Rattle.parts.specs.declared.Part.{Part}
use Rattle.parts.specs.Parts.{parts_in, parts_of}
use Rattle.parts.specs.Filled.{Told, tells, told_parts}
use Rattle.parts.proofs.Steps.{nothing}

module _ (s : List ℕ) (n : RecordNumber) (look : RecordNumber → Option (List ℕ)) (room : ℕ) (xs : List Part) where
  abbrev called : Option Rest → Told
  called o = told_parts xs (parts_of s n look room o)

  pub call_inside : (o : Option Rest) (x : Told) → gives tt ≡ inside_of s n o
      → x ≡ told_parts xs (parts_in s n look room o) → x ≡ called o
  unfolding parts_of
  call_inside o x e i = i ∙ sym (rw (passed s n o e) refl)

  pub call_unlisted : gives tt ≡ inside_of s n None → tells xs 0 (gives tt) 0 ≡ called None
  unfolding parts_in
  call_unlisted e = call_inside None (tells xs 0 (gives tt) 0) e
      (nothing s n look room xs (record { from = 0; to = 0 }) (gives tt))

  pub call_outside : (o : Option Rest) (r : Refusal) → refuses r ≡ inside_of s n o
      → tells xs 0 (refuses r) 0 ≡ called o
  unfolding parts_of
  call_outside o r e = let w = outside_by s n o r e in nothing s n look room xs (record { from = 0; to = 0 })
      (refuses r) ∙ sym (rw (w.lies, w.is) refl)

pub ruleset calls = (call_inside, call_unlisted, call_outside, lies_inside)
