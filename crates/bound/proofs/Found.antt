-- What a search finds is among what it read.
use Rattle.std.proofs.Common.{ℕ, ◌≡◌, List, [], ◌∷◌, eqb, subst}
use Rattle.std.specs.Prelude.{◌&&◌, Option}
use Rattle.std.specs.List.{Contains}
use Rattle.fields.specs.Answer.{gives, refuses, refusal, Outcome}
use Rattle.fields.specs.Known.{known_type}
use Rattle.fields.specs.declared.RecordNumber.{RecordNumber}
use Rattle.fields.proofs.Cases.{both}
use Rattle.fields.specs.declared.Refusal.{Refusal}
use Rattle.fields.specs.declared.Cause.TheVariants.{UnknownType, NoAttribute}
use Rattle.list.specs.declared.Entry.{Entry}
use Rattle.record.specs.Open.{Lent}
use Rattle.record.specs.Walk.{attributes_of}
use Rattle.record.specs.Search.{Searched, finds, behind_one, find_in}
use Rattle.record.specs.declared.layout.Attribute.{Attribute}
use Rattle.items.specs.Lookup.{lookup_of}
use Rattle.items.specs.Items.{found_in, sought_of}
use Rattle.bound.proofs.Members.{head, tail}

found-in : (n : RecordNumber) (ty instance : ℕ) (miss : Refusal) (hs : List (Outcome Attribute)) (h : Attribute)
    → (find_in n ty instance miss hs).answer ≡ gives h → Contains (find_in n ty instance miss hs).read h
unfolding find_in
found-in n ty instance miss [] h e = absurd (cc)
found-in n ty instance miss (refuses r ∷ hs) h e = absurd (cc)
found-in n ty instance miss (gives a ∷ hs) h e =
    let P = λ (x : Searched). (behind_one a x).answer ≡ gives h → Contains (behind_one a x).read h in
    let rest = find_in n ty instance miss hs in
    both P (known_type a.ty) _ (finds (refuses (refusal UnknownType n a.offset)))
    (both P (eqb a.ty ty && eqb a.instance instance) (finds (gives a)) rest
    (λ q. let same : a ≡ h = cc in subst (λ (y : Attribute). Contains (a ∷ []) y) same (head a []))
    (λ q. tail a rest.read h (found-in n ty instance miss hs h q)))
    (λ q. absurd (cc)) e

module _ (s : List ℕ) (n : RecordNumber) (look : RecordNumber → Option (List ℕ)) (e : Entry) (place : ℕ)
    (h : Attribute) where
  by-record : (a : Outcome Lent) → (found_in s n look e place a).answer ≡ gives h
      → Contains (found_in s n look e place a).read h
  unfolding found_in
  by-record (refuses r) q = absurd (cc)
  by-record (gives t) q =
      found-in t.number e.ty e.instance (refusal NoAttribute n place) (attributes_of t.bytes t.number) h q

  pub found_among : (sought_of s n look e place).answer ≡ gives h → Contains (sought_of s n look e place).read h
  unfolding sought_of
  found_among q = by-record (lookup_of s n look e.file place) q
