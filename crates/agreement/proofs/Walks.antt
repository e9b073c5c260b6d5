-- A call of the walk is the same by both lookups, and what is to come after an item is found alike again.
use Rattle.std.proofs.Common.{ℕ, ◌+◌, ◌≡◌, Bool, true, false, List, [], ◌∷◌, length, eqb, refl, ap, ◌∙◌}
use Rattle.std.proofs.Common.{map, subst}
use Rattle.std.specs.Prelude.{Option, Some, None, IfSome}
use borrow.Author.Tests.{eq-eqb}
use Rattle.fields.specs.Pick.{pick}
use Rattle.fields.specs.Answer.{Outcome, Answer, gives, refuses, refusal}
use Rattle.fields.specs.Known.{known_type, attribute_list}
use Rattle.fields.specs.declared.RecordNumber.{RecordNumber}
use Rattle.fields.specs.declared.Cause.TheVariants.{NoRecord}
use Rattle.list.specs.declared.Entry.{Entry}
use Rattle.record.specs.Open.{Lent}
use Rattle.record.specs.Walk.{walk_from, attributes_of}
use Rattle.record.specs.Value.{list_in}
use Rattle.record.specs.declared.layout.Attribute.{Attribute}
use Rattle.record.specs.declared.layout.Span.{Span}
use Rattle.record.proofs.Peel.{peel_raw}
use Rattle.items.specs.Lookup.{opened_as, lookup_of}
use Rattle.items.specs.Read.{Read, entry, own, spot, sought}
use Rattle.items.specs.State.{lies_in, list_at, state, fresh_of}
use Rattle.items.specs.Key.{name_in, key_of, passed_over}
use Rattle.items.specs.Items.{Left, leaves, reading, item, item_by, found_in, sought_of, entries_of}
use Rattle.items.specs.Items.{by_entries, by_list, by_attributes, next_by, next_in, next_of}
use Rattle.items.specs.declared.walk.Rest.{Rest}
use Rattle.items.specs.declared.key.Key.{Key}
use Rattle.items.specs.declared.walk.Item.{Item}
use Rattle.items.specs.declared.walk.State.{State}
use Rattle.items.proofs.Peel.{peel}
use Rattle.references.specs.Entries.{before, list_entries, entries_by, all_entries}
use Rattle.agreement.specs.Agree.{Agree}
use Rattle.agreement.proofs.Names.{choose, Alike, base, Named, front_named, all_named}

module _ (s : List ℕ) (n : RecordNumber) (look peek : RecordNumber → Option (List ℕ)) where
  abbrev Names : List (Outcome Entry) → Type 0
  Names es = Named s n look peek es

  -- what is looked up is opened alike, and searched alike
  pub looked : (m : RecordNumber) (place : ℕ) → Alike s n look peek m
      → lookup_of s n look m place ≡ lookup_of s n peek m place
  unfolding lookup_of
  looked m place h = ap (opened_as m (refusal NoRecord n place)) h

  found : (e : Entry) (place : ℕ) (a : Outcome Lent) → found_in s n look e place a ≡ found_in s n peek e place a
  unfolding found_in
  found e place (gives t) = refl
  found e place (refuses r) = refl

  pub searched : (e : Entry) (place : ℕ) → Alike s n look peek e.file
      → sought_of s n look e place ≡ sought_of s n peek e place
  unfolding sought_of
  searched e place h =
      ap (found_in s n look e place) (looked e.file place h) ∙ found e place (lookup_of s n peek e.file place)

  -- the entries of an open list, and those of the lists behind it
  abbrev open_entries : Option Rest → List (Outcome Entry)
  open_entries None = []
  open_entries (Some l) = entries_of s n l.to l.from

  -- a state from which on every entry to come is found alike
  abbrev pub Ready : State → Type 0
  Ready w = Names (before (open_entries w.list) (entries_by s n (walk_from s n w.raw)))

  -- so are the entries of an item's list
  abbrev pub Parted : Option Rest → Type 0
  Parted o = IfSome o (λ l. Names (entries_of s n l.to l.from))

  -- an item whose record is found alike, and those of its parts
  pub record Known (i : Item) : Type 0 where
    pub file : Alike s n look peek i.file
    pub rest : Parted i.rest

  pub record Comes (l : Left) (i : Item) : Type 0 where
    pub known : Known i
    pub ready : Ready l.left

  -- two calls that are one; where it gives an item, that is known
  pub record Same (l m : Left) : Type 0 where
    pub is : l ≡ m
    pub comes : (i : Item) → l.answer ≡ gives i → Comes l i

  no_item : (l m : Left) → l ≡ m → ((i : Item) → l.answer ≡ gives i → ⊥) → Same l m
  no_item l m e f = record { is = e; comes = λ i p. absurd (f i p) }

  read : (rs : List Read) (l m : Left) → Same l m → Same (reading rs l) (reading rs m)
  read rs l m h = record {
    is = ap (reading rs) h.is;
    comes = λ i p. let c = h.comes i p in record { known = c.known; ready = c.ready };
  }

  the_item : {i j : Item} → Answer.gives i ≡ Answer.gives j → i ≡ j
  the_item e = cc

  -- a call that gives a known item and is ready behind it
  one : (i : Item) (w : State) → Known i → Ready w → Same (leaves (gives i) w) (leaves (gives i) w)
  one i w h k = record {
    is = refl;
    comes = λ j p. record { known = subst Known (the_item p) h; ready = k };
  }

  -- an entry that leads to an attribute: the list from it on is named, and what is behind it too
  by_item : (raw from to : ℕ) (e : Entry) (key : Key) → Alike s n look peek e.file
      → ((k : Option Key) → Ready (state raw (Some (list_at (from + e.length) to)) k))
      → Names (entries_of s n to from) → (a : Outcome Attribute)
      → Same (item_by raw from to e key a) (item_by raw from to e key a)
  unfolding item_by
  by_item raw from to e key h w l (refuses r) = no_item _ _ refl (λ i p. absurd (cc))
  by_item raw from to e key h w l (gives x) =
      choose Same x.resident _ _ _ _
      (one (item e.file x None) (state raw (Some (list_at (from + e.length) to)) None)
      (record { file = h; rest = tt }) (w None))
      (one (item e.file x (Some (list_at from to))) (state raw (Some (list_at (from + e.length) to)) (Some key))
      (record { file = h; rest = l }) (w (Some key)))

  -- two walks over the raw attributes behind a list, which are the same where the entries of these are found alike
  module _ (raw : ℕ) (hs : List (Outcome Attribute)) (q : hs ≡ walk_from s n raw) (on un : Option Key → Left)
      (behind : (key : Option Key) → Names (entries_by s n hs) → Same (on key) (un key)) where
    -- over the entries of a list; where they end, the walk goes on behind it
    entries : (to : ℕ) (es : List (Outcome Entry)) (from : ℕ) (key : Option Key) → es ≡ entries_of s n to from
        → Names (before es (entries_by s n hs))
        → Same (by_entries s n look on raw to es from key) (by_entries s n peek un raw to es from key)
    unfolding by_entries before
    entries to [] from key p h = behind key h
    entries to (refuses r ∷ es) from key p h = no_item _ _ refl (λ i z. absurd (cc))
    entries to (gives e ∷ es) from key p h =
        let y = peel s n to from e es p in
        let ready : (k : Option Key) → Ready (state raw (Some (list_at (from + e.length) to)) k) =
        λ k. rw (← y.tail, ← q) h.1 in
        let list : Names (entries_of s n to from) =
        subst Names p (h.0, front_named s n look peek es (entries_by s n hs) h.1) in
        let found = searched e from h.0 in
        read (entry (spot raw from) e ∷ []) _ _
        (choose Same (known_type e.ty) _ _ _ _
        (choose Same (passed_over n key e (name_in s (list_at from to) e)) _ _ _ _
        (entries to es (from + e.length) key y.tail h.1)
        (rw (← found) (read (map (sought e.file) (sought_of s n look e from).read) _ _
        (by_item raw from to e (key_of e (name_in s (list_at from to) e)) h.0 ready list
        (sought_of s n look e from).answer))))
        (no_item _ _ refl (λ i z. absurd (cc))))

    opened : (a : Outcome Span) (key : Option Key) → Names (before (list_entries s n a) (entries_by s n hs))
        → Same (by_list s n look on raw a key) (by_list s n peek un raw a key)
    unfolding by_list list_entries before
    opened (refuses r) key h = no_item _ _ refl (λ i z. absurd (cc))
    opened (gives x) key h =
        entries (x.from + x.bytes) (entries_of s n (x.from + x.bytes) x.from) x.from key refl h

  attributes : (hs : List (Outcome Attribute)) (raw : ℕ) (key : Option Key) → hs ≡ walk_from s n raw
      → Names (entries_by s n hs)
      → Same (by_attributes s n look hs raw key) (by_attributes s n peek hs raw key)
  unfolding by_attributes entries_by before
  attributes [] raw key q h = no_item _ _ refl (λ i z. absurd (cc))
  attributes (refuses r ∷ hs) raw key q h = no_item _ _ refl (λ i z. absurd (cc))
  attributes (gives x ∷ hs) raw key q h =
      let y = peel_raw s n raw x hs q in
      by (eqb x.ty attribute_list) y.tail (λ k z. attributes hs (raw + x.length) k y.tail z) h
    where
      by : (t : Bool) → hs ≡ walk_from s n (raw + x.length)
          → ((k : Option Key) → Names (entries_by s n hs)
          → Same (by_attributes s n look hs (raw + x.length) k) (by_attributes s n peek hs (raw + x.length) k))
          → Names (pick t (before (list_entries s n (list_in s n x)) (entries_by s n hs)) (entries_by s n hs))
          → Same
          (reading (own x ∷ []) (pick t
          (by_list s n look (by_attributes s n look hs (raw + x.length)) (raw + x.length) (list_in s n x) key)
          (leaves (gives (item n x None)) (state (raw + x.length) None key))))
          (reading (own x ∷ []) (pick t
          (by_list s n peek (by_attributes s n peek hs (raw + x.length)) (raw + x.length) (list_in s n x) key)
          (leaves (gives (item n x None)) (state (raw + x.length) None key))))
      by true e f z = read (own x ∷ []) _ _ (opened (raw + x.length) hs e _ _ f (list_in s n x) key z)
      by false e f z =
          read (own x ∷ []) _ _
          (one (item n x None) (state (raw + x.length) None key)
          (record { file = base s n look peek n (eq-eqb n.0 n.0 refl); rest = tt })
          (subst (λ (v : List (Outcome Attribute)). Names (before [] (entries_by s n v))) e z))

  by_next : (raw : ℕ) (o : Option Rest) (key : Option Key) → Ready (state raw o key)
      → Same (next_by s n look raw o key) (next_by s n peek raw o key)
  unfolding next_by before
  by_next raw None key h = attributes (walk_from s n raw) raw key refl h
  by_next raw (Some l) key h =
      entries raw (walk_from s n raw) refl _ _ (λ k. attributes (walk_from s n raw) raw k refl) l.to
      (entries_of s n l.to l.from) l.from key refl h

  pub next_same : (w : State) → Ready w → Same (next_of s n look w) (next_of s n peek w)
  unfolding next_of next_in
  next_same w h =
      choose Same (lies_in (length s) w.list) _ _ _ _ (by_next w.raw w.list w.key h)
      (no_item _ _ refl (λ i z. absurd (cc)))

  -- a fresh walk has all entries before it
  pub fresh_ready : Agree s n look peek → Ready (fresh_of s)
  unfolding fresh_of before all_entries attributes_of
  fresh_ready a = all_named s n look peek a
