-- An item that tells a list has a part, or its parts are refused.
use Rattle.std.proofs.Common.{ℕ, ◌+◌, ◌-◌, ◌≤◌, ◌≡◌, Bool, true, false, List, length, ltb, sym, ◌∙◌}
use Rattle.std.proofs.Common.{subst, map, arith}
use mathlib.Core.Logic.{◌⊎◌, inl, inr}
use Rattle.std.specs.Prelude.{Option, Some, None}
use Rattle.fields.specs.Pick.{pick}
use Rattle.fields.specs.Answer.{Outcome, gives, refuses, refusal}
use Rattle.fields.specs.declared.RecordNumber.{RecordNumber}
use Rattle.fields.specs.declared.Refusal.{Refusal}
use Rattle.fields.specs.declared.Cause.TheVariants.{NoRoom, BadState}
use Rattle.fields.proofs.Answers.{refused-given}
use Rattle.items.specs.Read.{sought as seen}
use Rattle.items.specs.State.{lies_in}
use Rattle.items.specs.Key.{name_in, key_of}
use Rattle.items.specs.Items.{entries_of, sought_of}
use Rattle.items.specs.Laws.{OwnItem, EntryItem}
use Rattle.items.specs.declared.walk.Item.{Item}
use Rattle.items.specs.declared.walk.Rest.{Rest}
use Rattle.items.proofs.Steps.{first_entry}
use Rattle.items.proofs.Comes.{comes}
use Rattle.parts.specs.declared.Part.{Part}
use Rattle.parts.specs.Part.{part_of}
use Rattle.parts.specs.Parts.{Parts, stops, reading, giving, parts_by, parts_from, parts_in, parts_of}
use Rattle.parts.specs.Laws.{WholePartsAreSome}

abbrev IsSome : Parts → Type 0
IsSome p = p.answer ≡ gives tt → 1 ≤ length p.given

giving-some : (place : ℕ) (a : Outcome Part) (p : Parts) → IsSome (giving place a p)
unfolding giving
giving-some place (gives x) p e = omega arith
giving-some place (refuses r) p e = absurd (refused-given e)

or-refused : (t : Bool) (p : Parts) (r : Refusal) → IsSome p → IsSome (pick t p (stops (refuses r)))
or-refused true p r f e = f e
or-refused false p r f e = absurd (refused-given e)

-- a list that an item may tell is no list of another
the-list : (t : Bool) (k l : Rest) → pick t None (Some k) ≡ Some l → k ≡ l
the-list true k l e = absurd (cc)
the-list false k l e = cc

module _ (s : List ℕ) (n : RecordNumber) (look : RecordNumber → Option (List ℕ)) (i : Item) where
  some-by : (x : EntryItem s n look i) (room : ℕ) → IsSome (parts_in s n look room (Some x.list))
  unfolding parts_in parts_from
  some-by x room =
      let e = x.by in
      let known = x.known in
      let from = x.list.from in
      let rest = parts_by s n look (key_of e (name_in s x.list e)) x.list.to (room - 1)
      (entries_of s n x.list.to (from + e.length)) (from + e.length) in
      rw (first_entry s n x.list e (sym x.stands), known)
      (or-refused (ltb 0 room) (reading (map (seen e.file) (sought_of s n look e from).read)
      (giving from (part_of s n look e from) rest)) (refusal NoRoom n from)
      (giving-some from (part_of s n look e from) rest))

  some-of : OwnItem s n look i ⊎ EntryItem s n look i → (l : Rest) (room : ℕ) → i.rest ≡ Some l
      → IsSome (parts_of s n look room (Some l))
  unfolding parts_of
  some-of (inl x) l room q = let y : None ≡ Some l = sym x.rest ∙ q in absurd (cc)
  some-of (inr x) l room q =
      let same = the-list i.attribute.resident x.list l (sym x.rest ∙ q) in
      subst (λ (k : Rest). IsSome (pick (lies_in (length s) (Some k)) (parts_in s n look room (Some k))
      (stops (refuses (refusal BadState n 0))))) same
      (or-refused (lies_in (length s) (Some x.list)) (parts_in s n look room (Some x.list)) (refusal BadState n 0)
      (some-by x room))

pub whole_parts_are_some : WholePartsAreSome
whole_parts_are_some s n look w i l room p q = some-of s n look i (comes s n look w i p) l room q
