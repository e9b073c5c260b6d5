-- Each part is the one that the entry at its place leads to.
use Rattle.std.proofs.Common.{ℕ, ◌+◌, ◌-◌, ◌≡◌, List, [], ◌∷◌, ◌++◌, map, length, ltb, refl}
use Rattle.std.specs.Prelude.{Option, Some, None}
use Rattle.std.specs.List.{AllByRecursion}
use Rattle.fields.specs.Answer.{gives, refuses, ◌⟫◌, Outcome}
use Rattle.fields.specs.Known.{known_type}
use Rattle.fields.specs.declared.RecordNumber.{RecordNumber}
use Rattle.fields.proofs.Cases.{both}
use Rattle.fields.proofs.Answers.{back}
use Rattle.list.specs.declared.Entry.{Entry}
use Rattle.record.specs.declared.layout.Attribute.{Attribute}
use Rattle.items.specs.Lookup.{lookup_of}
use Rattle.items.specs.State.{list_at, lies_in}
use Rattle.items.specs.Key.{name_in, key_of, continues}
use Rattle.items.specs.Read.{Read, sought, joined}
use Rattle.items.specs.Items.{entries_of, sought_of}
use Rattle.items.specs.declared.walk.Rest.{Rest}
use Rattle.items.specs.declared.key.Key.{Key}
use Rattle.parts.specs.Part.{part_in, part_of}
use Rattle.parts.specs.Parts.{Given, Parts, reading, giving, taking, parts_by, parts_from, parts_in, parts_of}
use Rattle.parts.specs.declared.Part.{Part}
use Rattle.bound.specs.Replay.{Fronts}
use Rattle.bound.specs.Listing.{Leads}
use Rattle.bound.proofs.Members.{head, tail, deeper, wider, mapped}
use Rattle.bound.proofs.Found.{found_among}
use Rattle.items.proofs.Peel.{peel}

module _ (s : List ℕ) (n : RecordNumber) (look : RecordNumber → Option (List ℕ)) where
  abbrev Led : ℕ → Parts → Type 0
  Led to p = AllByRecursion (Leads s n look to p.reads) p.given

  more : (to : ℕ) (pre read : List Read) (gs : List Given) → AllByRecursion (Leads s n look to read) gs
      → AllByRecursion (Leads s n look to (pre ++ read)) gs
  more to pre read [] l = tt
  more to pre read (g ∷ gs) l = (
    record {
      by = l.0.by;
      stands = l.0.stands;
      leads = l.0.leads;
      seen = deeper pre read (joined g.place l.0.by) l.0.seen;
      attribute = l.0.attribute;
      found = l.0.found;
      read = deeper pre read (sought l.0.by.file l.0.attribute) l.0.read;
    },
    more to pre read gs l.1,
  )

  -- the reads of a search
  abbrev Searched : Entry → ℕ → List Read
  Searched e from = map (sought e.file) (sought_of s n look e from).read

  -- the attribute that was found is the last of them
  found-so : (e : Entry) (from : ℕ) (v : Part) → part_of s n look e from ≡ gives v
      → (h : Attribute) × ((sought_of s n look e from).answer ≡ gives h)
  unfolding part_of
  found-so e from v q =
      let k = back (sought_of s n look e from).answer (λ h. lookup_of s n look e.file from ⟫ λ t. part_in e t h) v q in
      (k.first, k.gave)

  giving-led : (to from : ℕ) (e : Entry) → Fronts s n look (list_at from to) e → (a : Outcome Part)
      → part_of s n look e from ≡ a → (p : Parts) → Led to p
      → Led to (reading (joined from e ∷ []) (reading (Searched e from) (giving from a p)))
  unfolding giving
  giving-led to from e t (gives v) q p l =
      let rs = Searched e from in
      let f = found-so e from v q in
      let i = found_among s n look e from f.0 f.1 in (
        record {
          by = e;
          stands = t;
          leads = q;
          seen = head (joined from e) (rs ++ p.reads);
          attribute = f.0;
          found = f.1;
          read = tail (joined from e) (rs ++ p.reads) (sought e.file f.0)
              (wider rs p.reads (sought e.file f.0) (mapped (sought e.file) (sought_of s n look e from).read f.0 i));
        },
        more to (joined from e ∷ rs) p.reads p.given l,
      )
  giving-led to from e t (refuses r) q p l = tt

  -- an entry, where there was room for its part or not
  taking-led : (to room from : ℕ) (e : Entry) → Fronts s n look (list_at from to) e → (p : Parts) → Led to p
      → Led to (reading (joined from e ∷ []) (taking s n look room e from p))
  taking-led to room from e t p l =
      both (λ (p : Parts). Led to (reading (joined from e ∷ []) p)) (ltb 0 room) _ _
      (giving-led to from e t (part_of s n look e from) refl p l) tt

  by-led : (to : ℕ) (key : Key) (room : ℕ) (es : List (Outcome Entry)) (from : ℕ) → es ≡ entries_of s n to from
      → Led to (parts_by s n look key to room es from)
  unfolding parts_by
  by-led to key room [] from q = tt
  by-led to key room (refuses r ∷ es) from q = tt
  by-led to key room (gives e ∷ es) from q =
      let k = peel s n to from e es q in
      both (λ (p : Parts). Led to (reading (joined from e ∷ []) p))
      (continues key e (name_in s (list_at from to) e)) _ _
      (taking-led to room from e k.stands (parts_by s n look key to (room - 1) es (from + e.length))
      (by-led to key (room - 1) es (from + e.length) k.tail))
      tt

  from-led : (to room : ℕ) (es : List (Outcome Entry)) (from : ℕ) → es ≡ entries_of s n to from
      → Led to (parts_from s n look to room es from)
  unfolding parts_from
  from-led to room [] from q = tt
  from-led to room (refuses r ∷ es) from q = tt
  from-led to room (gives e ∷ es) from q =
      let k = peel s n to from e es q in
      let key = key_of e (name_in s (list_at from to) e) in
      both (λ (p : Parts). Led to (reading (joined from e ∷ []) p)) (known_type e.ty) _ _
      (taking-led to room from e k.stands (parts_by s n look key to (room - 1) es (from + e.length))
      (by-led to key (room - 1) es (from + e.length) k.tail))
      tt

  pub list-led : (room : ℕ) (l : Rest) → Led l.to (parts_in s n look room (Some l))
  unfolding parts_in
  list-led room l = from-led l.to room (entries_of s n l.to l.from) l.from refl

  -- of the parts that a call gives for a list
  abbrev pub LedBy : Option Rest → List Read → List Given → Type 0
  LedBy (Some l) read gs = AllByRecursion (Leads s n look l.to read) gs
  LedBy None read gs = gs ≡ []

  pub asked-led : (room : ℕ) (o : Option Rest) → LedBy o (parts_of s n look room o).reads
      (parts_of s n look room o).given
  unfolding parts_of parts_in lies_in
  asked-led room None = refl
  asked-led room (Some l) = both (Led l.to) (lies_in (length s) (Some l)) _ _
      (from-led l.to room (entries_of s n l.to l.from) l.from refl) tt
