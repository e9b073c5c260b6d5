-- A parts call reads on until no more entry is given, or an entry ends them, or one is refused.
use Rattle.std.proofs.Common.{ℕ, ◌+◌, ◌-◌, ◌≡◌, List, [], ◌∷◌, ◌++◌, map, ltb}
use Rattle.std.proofs.Common.{refl, sym, ap, subst, ◌∙◌, append_assoc}
use mathlib.Core.Logic.{inl, inr}
use Rattle.std.proofs.lemmas.List.{append-nil}
use Rattle.std.specs.Prelude.{Option, Some}
use Rattle.fields.specs.Answer.{gives, refuses, Outcome}
use Rattle.fields.specs.Known.{known_type}
use Rattle.fields.specs.declared.RecordNumber.{RecordNumber}
use Rattle.fields.proofs.Cases.{both}
use Rattle.list.specs.declared.Entry.{Entry}
use Rattle.record.specs.declared.layout.Attribute.{Attribute}
use Rattle.items.specs.State.{list_at}
use Rattle.items.specs.Key.{name_in, key_of, continues}
use Rattle.items.specs.Read.{Read, sought, joined}
use Rattle.items.specs.Items.{entries_of, sought_of}
use Rattle.items.specs.declared.walk.Rest.{Rest}
use Rattle.items.specs.declared.key.Key.{Key}
use Rattle.items.proofs.Steps.{first_entry}
use Rattle.items.proofs.Peel.{peel}
use Rattle.parts.specs.Part.{part_of}
use Rattle.parts.specs.Parts.{Parts, reading, giving, taking, parts_by, parts_from, parts_in}
use Rattle.parts.specs.declared.Part.{Part}
use Rattle.bound.specs.Replay.{Fronts}
use Rattle.bound.specs.Listing.{searched, parts_left, Stopped, by_list, by_entry, by_part, EveryPart}
use Rattle.bound.proofs.Leads.{list-led}
use Rattle.bound.proofs.Stretch.{by-test}

module _ (s : List ℕ) (n : RecordNumber) (look : RecordNumber → Option (List ℕ)) where
  abbrev Ended : Rest → Parts → Type 0
  Ended l p = Stopped s n look l p.reads p.answer

  -- what a search reads leaves the parts' list where it is
  aside : (l : Rest) (k : RecordNumber) (hs : List Attribute) (rs : List Read)
      → parts_left l (map (sought k) hs ++ rs) ≡ parts_left l rs
  aside l k [] rs = refl
  aside l k (h ∷ hs) rs = aside l k hs rs

  -- no entry is given where there is none
  none-given : (to from : ℕ) (es : List (Outcome Entry)) → es ≡ entries_of s n to from
      → ((e : Entry) (xs : List (Outcome Entry)) → es ≡ gives e ∷ xs → ⊥)
      → (e : Entry) → Fronts s n look (list_at from to) e → ⊥
  none-given to from es q f e g = f e _ (q ∙ first_entry s n (list_at from to) e (sym g))

  module _ (to from : ℕ) (e : Entry) where
    abbrev front : List Read
    front = joined from e ∷ searched s n look e from

    -- behind a part that was given
    behind : (p : Parts) → Ended (list_at (from + e.length) to) p
        → Stopped s n look (list_at from to) (front ++ p.reads) p.answer
    behind p (by_list f) = by_list (λ x g. f x (subst (λ (l : Rest). Fronts s n look l x)
        (aside (list_at (from + e.length) to) e.file (sought_of s n look e from).read p.reads) g))
    behind p (by_entry before place x q a) =
        by_entry (front ++ before) place x
        (ap (λ (rs : List Read). front ++ rs) q ∙ sym (append_assoc front before (joined place x ∷ []))) a
    behind p (by_part before place x q f) =
        by_part (front ++ before) place x (ap (λ (rs : List Read). front ++ rs) q
        ∙ sym (append_assoc front before (joined place x ∷ searched s n look x place))) f

    missing : (a : Outcome Unit) → ((v : Part) → part_of s n look e from ≡ gives v → ⊥)
        → Stopped s n look (list_at from to) (front ++ []) a
    missing a f = by_part [] from e (append-nil front) f

    giving-ended : (a : Outcome Part) → part_of s n look e from ≡ a → (p : Parts)
        → Ended (list_at (from + e.length) to) p
        → Ended (list_at from to) (reading (joined from e ∷ []) (reading (searched s n look e from)
        (giving from a p)))
    unfolding giving
    giving-ended (gives v) q p t = behind p t
    giving-ended (refuses r) q p t = missing (refuses r) (λ v g. let d = sym q ∙ g in absurd (cc))

  -- an entry, where there was room for its part or not
  taking-ended : (to room from : ℕ) (e : Entry) (p : Parts) → Ended (list_at (from + e.length) to) p
      → Ended (list_at from to) (reading (joined from e ∷ []) (taking s n look room e from p))
  taking-ended to room from e p t =
      both (λ (p : Parts). Ended (list_at from to) (reading (joined from e ∷ []) p)) (ltb 0 room) _ _
      (giving-ended to from e (part_of s n look e from) refl p t)
      (by_entry [] from e refl (inl refl))

  by-ended : (to : ℕ) (key : Key) (room : ℕ) (es : List (Outcome Entry)) (from : ℕ) → es ≡ entries_of s n to from
      → Ended (list_at from to) (parts_by s n look key to room es from)
  unfolding parts_by
  by-ended to key room [] from q = by_list (none-given to from [] q (λ e xs d. absurd (cc)))
  by-ended to key room (refuses r ∷ es) from q =
      by_list (none-given to from (refuses r ∷ es) q (λ e xs d. absurd (cc)))
  by-ended to key room (gives e ∷ es) from q =
      let k = peel s n to from e es q in
      both (λ (p : Parts). Ended (list_at from to) (reading (joined from e ∷ []) p))
      (continues key e (name_in s (list_at from to) e)) _ _
      (taking-ended to room from e (parts_by s n look key to (room - 1) es (from + e.length))
      (by-ended to key (room - 1) es (from + e.length) k.tail))
      (by_entry [] from e refl tt)

  from-ended : (to room : ℕ) (es : List (Outcome Entry)) (from : ℕ) → es ≡ entries_of s n to from
      → Ended (list_at from to) (parts_from s n look to room es from)
  unfolding parts_from
  from-ended to room [] from q = by_list (none-given to from [] q (λ e xs d. absurd (cc)))
  from-ended to room (refuses r ∷ es) from q =
      by_list (none-given to from (refuses r ∷ es) q (λ e xs d. absurd (cc)))
  from-ended to room (gives e ∷ es) from q =
      let k = peel s n to from e es q in
      let key = key_of e (name_in s (list_at from to) e) in
      by-test (λ (p : Parts). Ended (list_at from to) (reading (joined from e ∷ []) p)) (known_type e.ty) _ _
      (λ _. taking-ended to room from e (parts_by s n look key to (room - 1) es (from + e.length))
      (by-ended to key (room - 1) es (from + e.length) k.tail))
      (λ u. by_entry [] from e refl (inr (u, refl)))

  list-ended : (room : ℕ) (l : Rest) → Ended l (parts_in s n look room (Some l))
  unfolding parts_in
  list-ended room l = from-ended l.to room (entries_of s n l.to l.from) l.from refl

pub every_part : EveryPart
every_part s n look room l = record {
  by_entries = list-led s n look room l;
  stopped = list-ended s n look room l;
}
