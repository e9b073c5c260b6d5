-- The parts by a list are of one stream, in its order, and whole ones leave none out.
use Rattle.std.proofs.Common.{ℕ, ◌+◌, ◌-◌, ◌≡◌, Bool, true, false, List, [], ◌∷◌, ltb, refl, sym, ◌∙◌, subst, map}
use Rattle.std.specs.Prelude.{Option}
use Rattle.fields.specs.Pick.{pick}
use Rattle.fields.specs.Answer.{Outcome, Answer, gives, refuses, refusal}
use Rattle.fields.specs.Known.{known_type}
use Rattle.fields.specs.declared.RecordNumber.{RecordNumber}
use Rattle.fields.specs.declared.Cause.TheVariants.{NoRoom}
use Rattle.fields.proofs.Answers.{refused-given}
use Rattle.list.specs.declared.Entry.{Entry}
use Rattle.items.specs.Read.{sought}
use Rattle.items.specs.State.{list_at}
use Rattle.items.specs.Key.{name_in, key_of, continues}
use Rattle.items.specs.Items.{entries_of, sought_of}
use Rattle.items.specs.declared.key.Key.{Key}
use Rattle.items.proofs.Steps.{first_entry}
use Rattle.items.proofs.Peel.{peel}
use Rattle.parts.specs.declared.Part.{Part}
use Rattle.parts.specs.Part.{part_of}
use Rattle.parts.specs.Parts.{Given, Parts, reading, giving, taking, parts_by, parts_from, parts_in}
use Rattle.parts.specs.Laws.{Stands, Continued, Stream, PartsAreOneStream}

by_test : (P : Parts → Type 0) (b : Bool) (x y : Parts) → (b ≡ true → P x) → (b ≡ false → P y) → P (pick b x y)
by_test P true x y f g = f refl
by_test P false x y f g = g refl

module _ (s : List ℕ) (n : RecordNumber) (look : RecordNumber → Option (List ℕ)) (to : ℕ) where
  -- where no entry is left, none stands
  no-more : (at : ℕ) → [] ≡ entries_of s n to at → (e : Entry) → Stands s n to at e → ⊥
  no-more at q e g = let f = first_entry s n (list_at at to) e (sym g) in absurd (cc)

  the-entry : (at : ℕ) (e f : Entry) → Stands s n to at e → Stands s n to at f → e ≡ f
  the-entry at e f g h =
      let q : Answer.gives e ≡ Answer.gives f = sym g ∙ h in cc

  -- a part by the entry at a place, or why there is none; what is asked of parts that begin with one, and of none
  module _ (P : Outcome Unit → List Given → Type 0) (refused : (r : _) → P (refuses r) []) (room : ℕ) (e : Entry)
      (at : ℕ) (behind : Parts)
      (takes : (x : Part) → P behind.answer (record { place = at; part = x } ∷ behind.given)) where
    gave : (a : Outcome Part) → P (giving at a behind).answer (giving at a behind).given
    unfolding giving
    gave (gives x) = takes x
    gave (refuses r) = refused r

    pub took : P (taking s n look room e at behind).answer (taking s n look room e at behind).given
    took = by_test (λ (p : Parts). P p.answer p.given) (ltb 0 room)
        (reading (map (sought e.file) (sought_of s n look e at).read) (giving at (part_of s n look e at) behind)) _
        (λ _. gave (part_of s n look e at)) (λ _. refused (refusal NoRoom n at))

  continued : (key : Key) (room : ℕ) (es : List (Outcome Entry)) (at : ℕ) → es ≡ entries_of s n to at
      → Continued s n to key (parts_by s n look key to room es at).answer at
      (parts_by s n look key to room es at).given
  unfolding parts_by
  continued key room [] at q = λ _ e g. absurd (no-more at q e g)
  continued key room (refuses r ∷ es) at q = λ u. absurd (refused-given u)
  continued key room (gives e ∷ es) at q =
      let y = peel s n to at e es q in
      by_test (λ (p : Parts). Continued s n to key p.answer at p.given)
      (continues key e (name_in s (list_at at to) e)) _ _
      (λ t. took (λ a gs. Continued s n to key a at gs) (λ r u. absurd (refused-given u)) room e at
      (parts_by s n look key to (room - 1) es (at + e.length))
      (λ x. (e, y.stands, refl, t, continued key (room - 1) es (at + e.length) y.tail)))
      (λ f u d g. subst (λ (z : Entry). continues key z (name_in s (list_at at to) z) ≡ false)
      (the-entry at e d y.stands g) f)

  streams : (room : ℕ) (es : List (Outcome Entry)) (at : ℕ) → es ≡ entries_of s n to at
      → Stream s n to (parts_from s n look to room es at).answer at (parts_from s n look to room es at).given
  unfolding parts_from
  streams room [] at q = λ _ e g. no-more at q e g
  streams room (refuses r ∷ es) at q = λ u. absurd (refused-given u)
  streams room (gives e ∷ es) at q =
      let y = peel s n to at e es q in
      let key = key_of e (name_in s (list_at at to) e) in
      by_test (λ (p : Parts). Stream s n to p.answer at p.given) (known_type e.ty) _ _
      (λ _. took (λ a gs. Stream s n to a at gs) (λ r u. absurd (refused-given u)) room e at
      (parts_by s n look key to (room - 1) es (at + e.length))
      (λ x. (e, y.stands, refl, continued key (room - 1) es (at + e.length) y.tail)))
      (λ _ u. absurd (refused-given u))

pub parts_are_one_stream : PartsAreOneStream
unfolding parts_in
parts_are_one_stream s n look room l = streams s n look l.to room (entries_of s n l.to l.from) l.from refl
