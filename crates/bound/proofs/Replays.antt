-- Each thing that a call reads stands where the one before of its kind ended.
use Rattle.std.proofs.Common.{ℕ, ◌+◌, ◌-◌, ◌≡◌, List, [], ◌∷◌, ◌++◌, map, length, eqb, ltb, Bool, refl, sym, ap}
use Rattle.std.proofs.Common.{subst, ◌∙◌}
use Rattle.std.specs.Prelude.{◌&&◌, Option, Some, None, IfSome}
use Rattle.fields.specs.Pick.{pick}
use Rattle.fields.specs.Answer.{Answer, gives, ends, refuses, refusal, Outcome}
use Rattle.fields.specs.Known.{known_type, attribute_list}
use Rattle.record.specs.Header.{first_attribute}
use Rattle.fields.specs.declared.RecordNumber.{RecordNumber}
use Rattle.fields.proofs.Cases.{both}
use Rattle.fields.specs.declared.Refusal.{Refusal}
use Rattle.fields.specs.declared.Cause.TheVariants.{NoAttribute, UnknownType}
use Rattle.record.specs.declared.layout.Attribute.{Attribute}
use Rattle.record.specs.Value.{list_in}
use Rattle.record.specs.declared.layout.Span.{Span}
use Rattle.list.specs.declared.Entry.{Entry}
use Rattle.record.specs.Open.{Lent}
use Rattle.record.specs.Walk.{walk_from, attributes_of}
use Rattle.record.specs.Search.{Searched, behind_one, find_in}
use Rattle.items.specs.Lookup.{opened_as, held_by, lookup_of}
use Rattle.items.specs.Read.{Read, own, entry, sought, joined, spot}
use Rattle.items.specs.State.{list_at, state, lies_in}
use Rattle.items.specs.Key.{name_in, key_of, continues, passed_over}
use Rattle.items.specs.Items.{Left, leaves, reading, item, entries_of, found_in, sought_of, item_by}
use Rattle.items.specs.Items.{item_of, by_entries, by_list, by_attributes, next_by, next_in, next_of}
use Rattle.items.specs.declared.walk.Rest.{Rest}
use Rattle.items.specs.declared.key.Key.{Key}
use Rattle.items.specs.declared.walk.State.{State}
use Rattle.items.specs.declared.walk.Item.{Item}
use Rattle.parts.specs.Part.{part_of}
use Rattle.parts.specs.Parts as parts
use Rattle.parts.specs.Parts.{Parts, taking, parts_by, parts_from, parts_in, parts_of, giving}
use Rattle.parts.specs.declared.Part.{Part}
use Rattle.bound.specs.Replay.{Search, search, Heads, heads, no_list, opened, begins, Done, Fronts, Stands, behind}
use Rattle.bound.specs.Replay.{Replay, onward, Holds, Keeps}
use Rattle.record.proofs.Peel.{peel_raw}
use Rattle.items.proofs.Peel.{peel}
use Rattle.items.proofs.Opened.{opened_file}
use Rattle.bound.proofs.Stretch.{by-test}
use Rattle.bound.proofs.Finished.{none_done, none_left}

-- a record that is looked up has the number that was asked for
numbered : (w : RecordNumber) (miss : Refusal) (o : Option (List ℕ)) (t : Lent) → opened_as w miss o ≡ gives t
    → w ≡ t.number
unfolding opened_as
numbered w miss None t e = absurd (cc)
numbered w miss (Some b) t e = sym (ap (λ (x : Lent). x.number) (opened_file b w t (sym e)))

looked-number : (s : List ℕ) (n : RecordNumber) (look : RecordNumber → Option (List ℕ)) (w : RecordNumber) (place : ℕ)
    (t : Lent) → lookup_of s n look w place ≡ gives t → w ≡ t.number
unfolding lookup_of held_by
looked-number s n look w place t e = numbered w _ _ t e

module _ (s : List ℕ) (n : RecordNumber) (look : RecordNumber → Option (List ℕ)) where
  pub onward-append : (h : Heads) (a b : List Read)
      → onward s n look h (a ++ b) ≡ onward s n look (onward s n look h a) b
  onward-append h [] b = refl
  onward-append h (r ∷ a) b = onward-append (behind s n look h r) a b

  pub replay-append : (h : Heads) (a b : List Read) → Replay s n look h a → Replay s n look (onward s n look h a) b
      → Replay s n look h (a ++ b)
  replay-append h [] b p q = q
  replay-append h (r ∷ a) b p q = (p.0, replay-append (behind s n look h r) a b p.1 q)

  -- these are read in their turn, and none is one of the walk's own or an entry
  pub record Aside (raw : ℕ) (list : Rest) (x : Option Search) (ps : Rest) (rs : List Read) : Type 0 where
    pub replay : Replay s n look (heads raw list x ps) rs
    pub search_left : Option Search
    pub parts_left : Rest
    pub same : onward s n look (heads raw list x ps) rs ≡ heads raw list search_left parts_left

  nothing : (raw : ℕ) (list : Rest) (x : Option Search) (ps : Rest) → Aside raw list x ps []
  nothing raw list x ps = record { replay = tt; search_left = x; parts_left = ps; same = refl }

  -- a search
  pub record Seeks (raw : ℕ) (list : Rest) (x : Option Search) (ps : Rest) (rs : List Read) : Type 0 where
    pub replay : Replay s n look (heads raw list x ps) rs
    pub search_left : Option Search
    pub same : onward s n look (heads raw list x ps) rs ≡ heads raw list search_left ps

  seek-none : (raw : ℕ) (list : Rest) (x : Option Search) (ps : Rest) → Seeks raw list x ps []
  seek-none raw list x ps = record { replay = tt; search_left = x; same = refl }

  seek : (raw : ℕ) (list ps : Rest) (t : Lent) (f : RecordNumber) → f ≡ t.number
      → (k : RecordNumber) (ty instance : ℕ) (miss : Refusal) (hs : List (Outcome Attribute)) (at : ℕ)
      → hs ≡ walk_from t.bytes t.number at → Seeks raw list (Some (search t at)) ps
      (map (sought f) (find_in k ty instance miss hs).read)
  unfolding find_in
  seek raw list ps t f e k ty instance miss [] at q = seek-none raw list (Some (search t at)) ps
  seek raw list ps t f e k ty instance miss (refuses r ∷ hs) at q = seek-none raw list (Some (search t at)) ps
  seek raw list ps t f e k ty instance miss (gives h ∷ hs) at q =
      let p = peel_raw t.bytes t.number at h hs q in
      let i = seek raw list ps t f e k ty instance miss hs (at + h.length) p.tail in
      let P = λ (x : Searched). Seeks raw list (Some (search t at)) ps (map (sought f) (behind_one h x).read) in
      both P (known_type h.ty) _ _
      (both P (eqb h.ty ty && eqb h.instance instance) _ _
      (record { replay = ((e, p.stands), tt); search_left = Some (search t (at + h.length)); same = refl })
      (record { replay = ((e, p.stands), i.replay); search_left = i.search_left; same = i.same }))
      (record { replay = ((e, p.stands), tt); search_left = Some (search t (at + h.length)); same = refl })

  found : (raw : ℕ) (list ps : Rest) (e : Entry) (place : ℕ) (a : Outcome Lent) → lookup_of s n look e.file place ≡ a
      → Seeks raw list (begins a) ps (map (sought e.file) (found_in s n look e place a).read)
  unfolding found_in attributes_of
  found raw list ps e place (refuses r) q = seek-none raw list None ps
  found raw list ps e place (gives t) q =
      seek raw list ps t e.file (looked-number s n look e.file place t q) t.number e.ty e.instance
      (refusal NoAttribute n place) _ (first_attribute t.bytes) refl

  -- for an entry that was looked up
  sought-told : (raw : ℕ) (list ps : Rest) (e : Entry) (place : ℕ)
      → Seeks raw list (begins (lookup_of s n look e.file place)) ps
      (map (sought e.file) (sought_of s n look e place).read)
  unfolding sought_of
  sought-told raw list ps e place = found raw list ps e place _ refl

  abbrev pub Begins : Heads → Answer Item → Type 0
  Begins h (gives i) = IfSome i.rest (λ l. h.parts ≡ l)
  Begins h ends = Unit {0}
  Begins h (refuses r) = Unit {0}

  -- a call reads in turn, leaves the heads where the state says, and parts begin at the item's own entry
  pub record Told (h : Heads) (l : Left) : Type 0 where
    pub replay : Replay s n look h l.reads
    pub keeps : Keeps s n look (onward s n look h l.reads) l.left
    pub begin : Begins (onward s n look h l.reads) l.answer

  more : (h : Heads) (r : Read) (l : Left) → Stands s n look h r → Told (behind s n look h r) l
      → Told h (reading (r ∷ []) l)
  more h r l st t = record { replay = (st, t.replay); keeps = t.keeps; begin = t.begin }

  -- behind a search
  after-seek : (raw : ℕ) (list ps : Rest) (x : Option Search) (rs : List Read) → Seeks raw list x ps rs → (l : Left)
      → ((y : Option Search) → Told (heads raw list y ps) l) → Told (heads raw list x ps) (reading rs l)
  after-seek raw list ps x rs k l f =
      let t = f k.search_left in
      let e : onward s n look (heads raw list x ps) (rs ++ l.reads)
      ≡ onward s n look (heads raw list k.search_left ps) l.reads =
      onward-append (heads raw list x ps) rs l.reads ∙ ap (λ (z : Heads). onward s n look z l.reads) k.same in
      record {
        replay = replay-append (heads raw list x ps) rs l.reads k.replay
            (subst (λ (z : Heads). Replay s n look z l.reads) (sym k.same) t.replay);
        keeps = subst (λ (z : Heads). Keeps s n look z l.left) (sym e) t.keeps;
        begin = subst (λ (z : Heads). Begins z l.answer) (sym e) t.begin;
      }

  module _ (raw to : ℕ) (on : Option Key → Left) (closes : (key : Option Key) (list : Rest) (x : Option Search)
      (ps : Rest) → Done s n look list → Told (heads raw list x ps) (on key)) where
    item-left : (from : ℕ) (e : Entry) (key : Key) (x : Option Search) (a : Outcome Attribute)
        → Told (heads raw (list_at (from + e.length) to) x (list_at from to)) (item_by raw from to e key a)
    unfolding item_by
    item-left from e key x (refuses r) = record { replay = tt; keeps = record { raw = refl; list = refl }; begin = tt }
    item-left from e key x (gives h) =
        let v = leaves (gives (item e.file h None)) (state raw (Some (list_at (from + e.length) to)) None) in
        let u = leaves (gives (item e.file h (Some (list_at from to))))
        (state raw (Some (list_at (from + e.length) to)) (Some key)) in
        both (Told (heads raw (list_at (from + e.length) to) x (list_at from to))) h.resident v u
        (record { replay = tt; keeps = record { raw = refl; list = refl }; begin = tt })
        (record { replay = tt; keeps = record { raw = refl; list = refl }; begin = refl })

    entries-told : (es : List (Outcome Entry)) (from : ℕ) (key : Option Key) (x : Option Search) (ps : Rest)
        → es ≡ entries_of s n to from
        → Told (heads raw (list_at from to) x ps) (by_entries s n look on raw to es from key)
    unfolding by_entries
    entries-told [] from key x ps q = closes key (list_at from to) x ps (none_left s n look to from q)
    entries-told (refuses r ∷ es) from key x ps q = record {
      replay = tt;
      keeps = record { raw = refl; list = refl };
      begin = tt;
    }
    entries-told (gives e ∷ es) from key x ps q =
        let k = peel s n to from e es q in
        let P = λ (l : Left). Told (heads raw (list_at from to) x ps) (reading (entry (spot raw from) e ∷ []) l) in
        let name = name_in s (list_at from to) e in
        let y = begins (lookup_of s n look e.file from) in
        let list = list_at (from + e.length) to in
        let last = leaves (refuses (refusal UnknownType n from)) (state raw (Some list) key) in
        both P (known_type e.ty) _ _
        (both P (passed_over n key e name) _ _
        (more (heads raw (list_at from to) x ps) (entry (spot raw from) e)
        (by_entries s n look on raw to es (from + e.length) key) (refl, k.stands)
        (entries-told es (from + e.length) key y (list_at from to) k.tail))
        (more (heads raw (list_at from to) x ps) (entry (spot raw from) e)
        (item_of raw from to e (key_of e name) (sought_of s n look e from)) (refl, k.stands)
        (after-seek raw (list_at (from + e.length) to) (list_at from to) y
        (map (sought e.file) (sought_of s n look e from).read)
        (sought-told raw (list_at (from + e.length) to) (list_at from to) e from)
        (item_by raw from to e (key_of e name) (sought_of s n look e from).answer)
        (λ v. item-left from e (key_of e name) v (sought_of s n look e from).answer))))
        (more (heads raw (list_at from to) x ps) (entry (spot raw from) e) last (refl, k.stands)
        (record { replay = tt; keeps = record { raw = refl; list = refl }; begin = tt }))

  -- what an attribute opens, by its type
  lists-told : (raw : ℕ) (h : Attribute) (on : Option Key → Left)
      → ((key : Option Key) (list : Rest) (x : Option Search) (ps : Rest) → Done s n look list
      → Told (heads (raw + h.length) list x ps) (on key))
      → (key : Option Key) (a : Outcome Span) → Told (heads (raw + h.length) (opened a) None no_list)
      (by_list s n look on (raw + h.length) a key)
  unfolding by_list
  lists-told raw h on c key (refuses r) = record {
    replay = tt;
    keeps = record { raw = refl; list = none_done s n look };
    begin = tt;
  }
  lists-told raw h on c key (gives p) =
      entries-told (raw + h.length) (p.from + p.bytes) on c (entries_of s n (p.from + p.bytes) p.from) p.from key None
      no_list refl

  raws-told : (hs : List (Outcome Attribute)) (raw : ℕ) → hs ≡ walk_from s n raw
      → (key : Option Key) (list : Rest) (x : Option Search) (ps : Rest) → Done s n look list
      → Told (heads raw list x ps) (by_attributes s n look hs raw key)
  unfolding by_attributes
  raws-told [] raw q key list x ps d = record { replay = tt; keeps = record { raw = refl; list = d }; begin = tt }
  raws-told (refuses r ∷ hs) raw q key list x ps d = record {
    replay = tt;
    keeps = record { raw = refl; list = d };
    begin = tt;
  }
  raws-told (gives h ∷ hs) raw q key list x ps d =
      let k = peel_raw s n raw h hs q in
      let P = λ (l : Left). Told (heads raw list x ps) (reading (own h ∷ []) l) in
      let l = by_list s n look (by_attributes s n look hs (raw + h.length)) (raw + h.length) (list_in s n h) key in
      let last = leaves (gives (item n h None)) (state (raw + h.length) None key) in
      by-test P (eqb h.ty attribute_list) _ _
      (λ t. more (heads raw list x ps) (own h) l (d, k.stands)
      (subst (λ (b : Bool). Told (heads (raw + h.length) (pick b (opened (list_in s n h)) no_list) None no_list) l)
      (sym t)
      (lists-told raw h (by_attributes s n look hs (raw + h.length)) (raws-told hs (raw + h.length) k.tail) key
      (list_in s n h))))
      (λ t. more (heads raw list x ps) (own h) last (d, k.stands)
      (record {
        replay = tt;
        keeps = record {
          raw = refl;
          list = subst
              (λ (b : Bool). Done s n look (pick b (opened (list_in s n h)) no_list)) (sym t) (none_done s n look);
        };
        begin = tt;
      }))

  next-told : (raw : ℕ) (o : Option Rest) (key : Option Key) (list : Rest) (x : Option Search) (ps : Rest)
      → Holds s n look list o → Told (heads raw list x ps) (next_by s n look raw o key)
  unfolding next_by
  next-told raw None key list x ps e = raws-told (walk_from s n raw) raw refl key list x ps e
  next-told raw (Some l) key list x ps e =
      subst (λ (m : Rest). Told (heads raw m x ps) (by_entries s n look
      (by_attributes s n look (walk_from s n raw) raw) raw l.to (entries_of s n l.to l.from) l.from key)) (sym e)
      (entries-told raw l.to (by_attributes s n look (walk_from s n raw) raw) (raws-told (walk_from s n raw) raw refl)
      (entries_of s n l.to l.from) l.from key x ps refl)

  -- a call of the walk, from any state
  pub call-told : (h : Heads) (w : State) → Keeps s n look h w → Told h (next_of s n look w)
  unfolding next_of next_in
  call-told h w k =
      both (Told h) (lies_in (length s) w.list) _ _
      (subst (λ (r : ℕ). Told (heads r h.list h.search h.parts) (next_by s n look w.raw w.list w.key)) (sym k.raw)
      (next-told w.raw w.list w.key h.list h.search h.parts k.list))
      (record { replay = tt; keeps = k; begin = tt })

  -- a call for parts: the walk's own heads stay
  aside-more : (raw : ℕ) (list ps qs : Rest) (x y : Option Search) (rs us : List Read)
      → Replay s n look (heads raw list x ps) rs → onward s n look (heads raw list x ps) rs ≡ heads raw list y qs
      → Aside raw list y qs us → Aside raw list x ps (rs ++ us)
  aside-more raw list ps qs x y rs us p e a = record {
    replay = replay-append (heads raw list x ps) rs us p (subst (λ (z : Heads). Replay s n look z us)
        (sym e) a.replay);
    search_left = a.search_left;
    parts_left = a.parts_left;
    same = onward-append (heads raw list x ps) rs us ∙ ap (λ (z : Heads). onward s n look z us) e ∙ a.same;
  }

  module _ (raw : ℕ) (list : Rest) (to : ℕ) where
    giving-told : (from : ℕ) (ps : Rest) (x : Option Search) (a : Outcome Part) (p : Parts)
        → Aside raw list x ps p.reads → Aside raw list x ps (giving from a p).reads
    unfolding giving
    giving-told from ps x (gives v) p t = t
    giving-told from ps x (refuses r) p t = nothing raw list x ps

    -- an entry, and what was read behind it
    joined-told : (from : ℕ) (x : Option Search) (e : Entry) → Fronts s n look (list_at from to) e → (us : List Read)
        → Aside raw list (begins (lookup_of s n look e.file from)) (list_at (from + e.length) to) us
        → Aside raw list x (list_at from to) (joined from e ∷ us)
    joined-told from x e f us a =
        aside-more raw list (list_at from to) (list_at (from + e.length) to) x
        (begins (lookup_of s n look e.file from)) (joined from e ∷ []) us ((refl, f), tt) refl a

    -- an entry, where there was room for its part or not
    taking-told : (room from : ℕ) (x : Option Search) (e : Entry) → Fronts s n look (list_at from to) e → (p : Parts)
        → ((y : Option Search) → Aside raw list y (list_at (from + e.length) to) p.reads)
        → Aside raw list x (list_at from to) (parts.reading (joined from e ∷ []) (taking s n look room e from p)).reads
    taking-told room from x e f p t =
        let y = begins (lookup_of s n look e.file from) in
        let k = sought-told raw list (list_at (from + e.length) to) e from in
        both (λ (p : Parts). Aside raw list x (list_at from to) (parts.reading (joined from e ∷ []) p).reads)
        (ltb 0 room) _ _
        (joined-told from x e f
        (map (sought e.file) (sought_of s n look e from).read ++ (giving from (part_of s n look e from) p).reads)
        (aside-more raw list (list_at (from + e.length) to) (list_at (from + e.length) to) y k.search_left
        (map (sought e.file) (sought_of s n look e from).read) (giving from (part_of s n look e from) p).reads
        k.replay k.same
        (giving-told from (list_at (from + e.length) to) k.search_left (part_of s n look e from) p
        (t k.search_left))))
        (joined-told from x e f [] (nothing raw list y (list_at (from + e.length) to)))

    parts-told : (key : Key) (room : ℕ) (es : List (Outcome Entry)) (from : ℕ) (x : Option Search)
        → es ≡ entries_of s n to from
        → Aside raw list x (list_at from to) (parts_by s n look key to room es from).reads
    unfolding parts_by
    parts-told key room [] from x q = nothing raw list x (list_at from to)
    parts-told key room (refuses r ∷ es) from x q = nothing raw list x (list_at from to)
    parts-told key room (gives e ∷ es) from x q =
        let k = peel s n to from e es q in
        both (λ (p : Parts). Aside raw list x (list_at from to) (parts.reading (joined from e ∷ []) p).reads)
        (continues key e (name_in s (list_at from to) e)) _ _
        (taking-told room from x e k.stands (parts_by s n look key to (room - 1) es (from + e.length))
        (λ y. parts-told key (room - 1) es (from + e.length) y k.tail))
        (joined-told from x e k.stands [] (nothing raw list _ (list_at (from + e.length) to)))

    from-told : (room : ℕ) (es : List (Outcome Entry)) (from : ℕ) (x : Option Search) → es ≡ entries_of s n to from
        → Aside raw list x (list_at from to) (parts_from s n look to room es from).reads
    unfolding parts_from
    from-told room [] from x q = nothing raw list x (list_at from to)
    from-told room (refuses r ∷ es) from x q = nothing raw list x (list_at from to)
    from-told room (gives e ∷ es) from x q =
        let k = peel s n to from e es q in
        let key = key_of e (name_in s (list_at from to) e) in
        both (λ (p : Parts). Aside raw list x (list_at from to) (parts.reading (joined from e ∷ []) p).reads)
        (known_type e.ty) _ _
        (taking-told room from x e k.stands (parts_by s n look key to (room - 1) es (from + e.length))
        (λ y. parts-told key (room - 1) es (from + e.length) y k.tail))
        (joined-told from x e k.stands [] (nothing raw list _ (list_at (from + e.length) to)))

  in-told : (raw : ℕ) (list : Rest) (x : Option Search) (ps : Rest) (room : ℕ) (o : Option Rest)
      → IfSome o (λ l. ps ≡ l) → Aside raw list x ps (parts_in s n look room o).reads
  unfolding parts_in
  in-told raw list x ps room None e = nothing raw list x ps
  in-told raw list x ps room (Some l) e =
      subst
      (λ (m : Rest). Aside raw list x m (parts_from s n look l.to room (entries_of s n l.to l.from) l.from).reads)
      (sym e) (from-told raw list l.to room (entries_of s n l.to l.from) l.from x refl)

  pub asked-told : (h : Heads) (room : ℕ) (o : Option Rest) → IfSome o (λ l. h.parts ≡ l)
      → Aside h.raw h.list h.search h.parts (parts_of s n look room o).reads
  unfolding parts_of
  asked-told h room o e = both (λ (p : Parts). Aside h.raw h.list h.search h.parts p.reads) (lies_in (length s) o) _ _
      (in-told h.raw h.list h.search h.parts room o e) (nothing h.raw h.list h.search h.parts)
