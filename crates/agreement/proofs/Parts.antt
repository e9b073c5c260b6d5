-- The parts of an item that is known are the same by both lookups, and their records are found alike.
use Rattle.std.proofs.Common.{ℕ, ◌+◌, ◌-◌, ◌≡◌, List, [], ◌∷◌, map, length, ltb, refl, sym, ap, ◌∙◌}
use Rattle.std.proofs.Common.{subst}
use Rattle.std.specs.Prelude.{Option, Some, None}
use Rattle.std.specs.List.{AllByRecursion}
use Rattle.fields.specs.Answer.{Outcome, gives, refuses, refusal, ◌⟫◌}
use Rattle.fields.specs.Known.{known_type}
use Rattle.fields.specs.declared.RecordNumber.{RecordNumber}
use Rattle.fields.specs.declared.Cause.TheVariants.{NoRoom, NoRecord}
use Rattle.fields.proofs.Answers.{back, refused-given, the-given}
use Rattle.fields.proofs.Cases.{not_first}
use Rattle.list.specs.declared.Entry.{Entry}
use Rattle.record.specs.Open.{Lent}
use Rattle.record.specs.Value.{full_in}
use Rattle.record.specs.declared.layout.Attribute.{Attribute}
use Rattle.record.specs.declared.layout.FullHeader.{FullHeader}
use Rattle.record.specs.declared.layout.FullHeader.TheVariants as header
use Rattle.record.specs.Search.{Searched}
use Rattle.items.specs.Lookup.{opened_as, held_by, lookup_of}
use Rattle.items.specs.Read.{Read, sought, joined}
use Rattle.items.specs.State.{lies_in, list_at}
use Rattle.items.specs.Key.{name_in, key_of, continues}
use Rattle.items.specs.Items.{entries_of, sought_of}
use Rattle.items.specs.declared.key.Key.{Key}
use Rattle.items.specs.declared.walk.Rest.{Rest}
use Rattle.items.proofs.Opened.{opened_file}
use Rattle.parts.specs.declared.Part.{Part}
use Rattle.parts.specs.Part.{part_after, part_in, part_of}
use Rattle.parts.specs.Parts.{Given, Parts, stops, reading, giving, taking, parts_by, parts_from, parts_in, parts_of}
use Rattle.agreement.proofs.Names.{choose, Alike, Named}
use Rattle.agreement.proofs.Walks.{looked, searched, Parted}

-- a part names the record that it was judged in
after : (e : Entry) (t : Lent) (h : Attribute) (f : FullHeader) (p : Part) → part_after e t h f ≡ gives p
    → p.file ≡ t.number
unfolding part_after
after e t h (header.Resident f) p q = absurd (refused-given q)
after e t h (header.NonResident f) p q =
    let x = not_first (ltb h.length f.runs_offset) _ _ (gives p) q refused-given in
    ap (λ (y : Part). y.file) (sym (the-given x.1))

judged : (e : Entry) (t : Lent) (h : Attribute) (p : Part) → part_in e t h ≡ gives p → p.file ≡ t.number
unfolding part_in
judged e t h p q =
    let x = not_first h.resident _ _ (gives p) q refused-given in
    let y = back (full_in t.bytes t.number h) (part_after e t h) p x.1 in
    after e t h y.first p y.next

module _ (s : List ℕ) (n : RecordNumber) (look peek : RecordNumber → Option (List ℕ)) where
  abbrev Found : Part → Type 0
  Found p = Alike s n look peek p.file

  -- and that is the record that was wanted, the entry's
  numbered : (m : RecordNumber) (place : ℕ) (o : Option (List ℕ)) (t : Lent)
      → opened_as m (refusal NoRecord n place) o ≡ gives t → t.number ≡ m
  unfolding opened_as
  numbered m place None t e = absurd (refused-given e)
  numbered m place (Some b) t e = ap (λ (x : Lent). x.number) (opened_file b m t (sym e))

  named : (e : Entry) (place : ℕ) (p : Part) → part_of s n look e place ≡ gives p → p.file ≡ e.file
  unfolding part_of lookup_of
  named e place p q =
      let x = back (sought_of s n look e place).answer
      (λ h. lookup_of s n look e.file place ⟫ λ t. part_in e t h) p q in
      let y = back (lookup_of s n look e.file place) (λ t. part_in e t x.first) p x.next in
      judged e y.first x.first p y.next ∙ numbered e.file place (held_by s n look e.file) y.first y.gave

  part_same : (e : Entry) (place : ℕ) → Alike s n look peek e.file
      → part_of s n look e place ≡ part_of s n peek e place
  unfolding part_of
  part_same e place h =
      ap (λ (x : Searched). x.answer ⟫ λ h. lookup_of s n look e.file place ⟫ λ t. part_in e t h) (searched s n look
      peek e place h)
      ∙ ap (λ (a : Outcome Lent). (sought_of s n peek e place).answer ⟫ λ h. a ⟫ λ t. part_in e t h)
      (looked s n look peek e.file place h)

  -- parts that are the same, each of a record that is found alike
  pub record Same (p q : Parts) : Type 0 where
    pub is : p ≡ q
    pub found : AllByRecursion (λ (g : Given). Found g.part) p.given

  stopped : (a : Outcome Unit) → Same (stops a) (stops a)
  stopped a = record { is = refl; found = tt }

  read : (rs : List Read) (p q : Parts) → Same p q → Same (reading rs p) (reading rs q)
  read rs p q h = record { is = ap (reading rs) h.is; found = h.found }

  give : (place : ℕ) (a : Outcome Part) (p q : Parts) → ((x : Part) → a ≡ gives x → Found x) → Same p q
      → Same (giving place a p) (giving place a q)
  unfolding giving
  give place (gives x) p q f h = record { is = ap (giving place (gives x)) h.is; found = (f x refl, h.found) }
  give place (refuses r) p q f h = stopped (refuses r)

  take_same : (room : ℕ) (e : Entry) (from : ℕ) (p q : Parts) → Alike s n look peek e.file → Same p q
      → Same (taking s n look room e from p) (taking s n peek room e from q)
  take_same room e from p q h k =
      choose Same (ltb 0 room) _ _ _ _
      (rw (← searched s n look peek e from h, ← part_same e from h)
      (read (map (sought e.file) (sought_of s n look e from).read) _ _
      (give from (part_of s n look e from) p q
      (λ x y. subst (Alike s n look peek) (sym (named e from x y)) h) k)))
      (stopped (refuses (refusal NoRoom n from)))

  by : (key : Key) (to room : ℕ) (es : List (Outcome Entry)) (from : ℕ) → Named s n look peek es
      → Same (parts_by s n look key to room es from) (parts_by s n peek key to room es from)
  unfolding parts_by
  by key to room [] from h = stopped (gives tt)
  by key to room (refuses r ∷ es) from h = stopped (refuses r)
  by key to room (gives e ∷ es) from h =
      read (joined from e ∷ []) _ _
      (choose Same (continues key e (name_in s (list_at from to) e)) _ _ _ _
      (take_same room e from _ _ h.0 (by key to (room - 1) es (from + e.length) h.1))
      (stopped (gives tt)))

  of_list : (to room : ℕ) (es : List (Outcome Entry)) (from : ℕ) → Named s n look peek es
      → Same (parts_from s n look to room es from) (parts_from s n peek to room es from)
  unfolding parts_from
  of_list to room [] from h = stopped (gives tt)
  of_list to room (refuses r ∷ es) from h = stopped (refuses r)
  of_list to room (gives e ∷ es) from h =
      read (joined from e ∷ []) _ _
      (choose Same (known_type e.ty) _ _ _ _
      (take_same room e from _ _ h.0
      (by (key_of e (name_in s (list_at from to) e)) to (room - 1) es (from + e.length) h.1))
      (stopped _))

  in_list : (room : ℕ) (o : Option Rest) → Parted s n look peek o
      → Same (parts_in s n look room o) (parts_in s n peek room o)
  unfolding parts_in
  in_list room None h = stopped (gives tt)
  in_list room (Some l) h = of_list l.to room (entries_of s n l.to l.from) l.from h

  pub parts_same : (room : ℕ) (o : Option Rest) → Parted s n look peek o
      → Same (parts_of s n look room o) (parts_of s n peek room o)
  unfolding parts_of
  parts_same room o h = choose Same (lies_in (length s) o) _ _ _ _ (in_list room o h) (stopped _)
