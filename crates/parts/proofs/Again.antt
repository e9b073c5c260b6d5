-- The record of a part is found again, and its run bytes lie inside it.
use Rattle.std.proofs.Common.{ℕ, ◌+◌, ◌-◌, ◌≤◌, ◌≡◌, List, [], ◌∷◌, length, ltb, refl, sym, ap}
use Rattle.std.proofs.Common.{◌∙◌, arith}
use Rattle.std.specs.Prelude.{Option, Some, None, All}
use Rattle.std.proofs.lemmas.Bool.Decides.{nat_tests}
use Rattle.std.proofs.lemmas.List.Elements.{All-cons}
use Rattle.fields.specs.Answer.{Outcome, gives, refuses, refusal, ◌⟫◌}
use Rattle.fields.specs.Known.{known_type}
use Rattle.fields.specs.declared.RecordNumber.{RecordNumber}
use Rattle.fields.specs.declared.Cause.TheVariants.{NoAttribute}
use Rattle.fields.proofs.Answers.{back, refused-given, the-given}
use Rattle.fields.proofs.Cases.{both, not_first}
use Rattle.list.specs.declared.Entry.{Entry}
use Rattle.record.specs.Open.{Lent}
use Rattle.record.specs.Value.{full_in}
use Rattle.record.specs.declared.layout.Attribute.{Attribute}
use Rattle.record.specs.declared.layout.FullHeader.{FullHeader}
use Rattle.record.specs.declared.layout.FullHeader.TheVariants as header
use Rattle.record.proofs.Given.{of-step}
use Rattle.record.proofs.Searches.{found-stands}
use Rattle.items.specs.State.{lies_in, list_at}
use Rattle.items.specs.Key.{name_in, key_of, continues}
use Rattle.items.specs.Lookup.{lookup_of}
use Rattle.items.specs.Items.{entries_of, found_in, sought_of}
use Rattle.items.specs.declared.key.Key.{Key}
use Rattle.items.specs.declared.walk.Rest.{Rest}
use Rattle.items.proofs.Comes.{looked-again}
use Rattle.parts.specs.declared.Part.{Part}
use Rattle.parts.specs.Part.{part_after, part_in, part_of}
use Rattle.parts.specs.Parts.{Given, Parts, giving, taking, parts_by, parts_from, parts_in, parts_of}
use Rattle.parts.specs.Laws.{FoundAgain, PartsAreFoundAgain}

-- a part that is given names the record that it was judged in, and its run bytes end where its attribute does
record Judged (t : Lent) (h : Attribute) (p : Part) : Type 0 where
  file : p.file ≡ t.number
  inside : p.runs.from + p.runs.bytes ≡ h.offset + h.length

after : (e : Entry) (t : Lent) (h : Attribute) (f : FullHeader) (p : Part) → part_after e t h f ≡ gives p → Judged t h p
unfolding part_after
after e t h (header.Resident f) p q = absurd (refused-given q)
after e t h (header.NonResident f) p q =
    let x = not_first (ltb h.length f.runs_offset) _ _ (gives p) q refused-given in
    let fits : f.runs_offset ≤ h.length = let y = x.0 in grind (arith, nat_tests) in
    let same = the-given x.1 in
    let sum : p.runs.from + p.runs.bytes ≡ (h.offset + f.runs_offset) + (h.length - f.runs_offset) =
    ap (λ (y : Part). y.runs.from + y.runs.bytes) (sym same) in
    record {
      file = ap (λ (y : Part). y.file) (sym same);
      inside = omega arith;
    }

judged : (e : Entry) (t : Lent) (h : Attribute) (p : Part) → part_in e t h ≡ gives p → Judged t h p
unfolding part_in
judged e t h p q =
    let x = not_first h.resident _ _ (gives p) q refused-given in
    let y = back (full_in t.bytes t.number h) (part_after e t h) p x.1 in
    after e t h y.first p y.next

none : {A : Type 0} (P : A → Type 0) → All P []
none P k d l = absurd (omega arith)

module _ (s : List ℕ) (n : RecordNumber) (look : RecordNumber → Option (List ℕ)) (other : ℕ) where
  abbrev Again : Part → Type 0
  Again p = FoundAgain s n look other p

  -- the attribute found stands in the record that was looked up, and so ends inside it
  found : (e : Entry) (place : ℕ) (h : Attribute) (p : Part) (a : Outcome Lent) → lookup_of s n look e.file place ≡ a
      → (found_in s n look e place a).answer ≡ gives h → a ⟫ (λ t. part_in e t h) ≡ gives p → Again p
  unfolding found_in
  found e place h p (refuses r) l f q = absurd (refused-given f)
  found e place h p (gives t) l f q =
      let j = judged e t h p q in
      let stands = of-step t.bytes t.number h.offset h
      (found-stands t.bytes t.number t.number e.ty e.instance (refusal NoAttribute n place) h (sym f)) in
      let ends = stands.most in
      let runs = j.inside in
      record {
        within = t;
        opened = ap (λ (f : RecordNumber). lookup_of s n look f other) j.file
            ∙ looked-again s n look e.file place other t l;
        inside = omega arith;
      }

  part : (e : Entry) (place : ℕ) (p : Part) → part_of s n look e place ≡ gives p → Again p
  unfolding part_of sought_of
  part e place p q =
      let x =
      back (sought_of s n look e place).answer (λ h. lookup_of s n look e.file place ⟫ λ t. part_in e t h) p q in
      found e place x.first p (lookup_of s n look e.file place) refl x.gave x.next

  nothing : All (λ (g : Given). Again g.part) []
  nothing = none (λ (g : Given). Again g.part)

  abbrev All-again : Parts → Type 0
  All-again p = All (λ g. Again g.part) p.given

  behind : (place : ℕ) (a : Outcome Part) (p : Parts) → ((x : Part) → a ≡ gives x → Again x) → All-again p
      → All-again (giving place a p)
  unfolding giving
  behind place (gives x) p f h =
      All-cons (λ (g : Given). Again g.part) (record { place = place; part = x }) p.given (f x refl) h
  behind place (refuses r) p f h = nothing

  takes : (room : ℕ) (e : Entry) (from : ℕ) (p : Parts) → All-again p → All-again (taking s n look room e from p)
  takes room e from p h = both All-again (ltb 0 room) _ _ (behind from (part_of s n look e from) p (part e from) h)
      nothing

  by : (key : Key) (to room : ℕ) (es : List (Outcome Entry)) (from : ℕ)
      → All-again (parts_by s n look key to room es from)
  unfolding parts_by
  by key to room [] from = nothing
  by key to room (refuses r ∷ es) from = nothing
  by key to room (gives e ∷ es) from =
      both All-again (continues key e (name_in s (list_at from to) e)) _ _
      (takes room e from _ (by key to (room - 1) es (from + e.length))) nothing

  of-list : (to room : ℕ) (es : List (Outcome Entry)) (from : ℕ) → All-again (parts_from s n look to room es from)
  unfolding parts_from
  of-list to room [] from = nothing
  of-list to room (refuses r ∷ es) from = nothing
  of-list to room (gives e ∷ es) from =
      both All-again (known_type e.ty) _ _
      (takes room e from _ (by (key_of e (name_in s (list_at from to) e)) to (room - 1) es (from + e.length)))
      nothing

  in-list : (room : ℕ) (o : Option Rest) → All-again (parts_in s n look room o)
  unfolding parts_in
  in-list room None = nothing
  in-list room (Some l) = of-list l.to room (entries_of s n l.to l.from) l.from

  pub again : (room : ℕ) (o : Option Rest) → All-again (parts_of s n look room o)
  unfolding parts_of
  again room o = both All-again (lies_in (length s) o) _ _ (in-list room o) nothing

pub parts_are_found_again : PartsAreFoundAgain
parts_are_found_again s n look room o place = again s n look place room o
