-- A list is told by where its attribute ends: of every call, of every read, and of every entry of a listing.
use Rattle.std.proofs.Common.{ℕ, ◌+◌, ◌≤◌, ◌<◌, ◌≡◌, List, [], ◌∷◌, ◌++◌, length, eqb}
use Rattle.std.proofs.Common.{refl, sym, ap, subst, ◌∙◌, arith}
use mathlib.Core.Logic.{◌⊎◌, inl, inr, ⊎_elim}
use native.Mathlib.Nat.{le_refl}
use Rattle.std.proofs.lemmas.Bool.{eqb-true}
use Rattle.std.specs.Prelude.{Option, Some, None}
use Rattle.std.specs.List.{Contains}
use Rattle.fields.specs.Answer.{gives, refuses, Outcome}
use Rattle.fields.specs.Known.{known_type, attribute_list}
use Rattle.fields.specs.declared.RecordNumber.{RecordNumber}
use Rattle.fields.proofs.Cases.{both}
use Rattle.list.specs.declared.Entry.{Entry}
use Rattle.record.specs.Header.{first_attribute}
use Rattle.record.specs.Walk.{walk_from}
use Rattle.record.specs.Value.{list_in}
use Rattle.record.specs.declared.layout.Attribute.{Attribute}
use Rattle.record.specs.declared.layout.Span.{Span}
use Rattle.record.proofs.Given.{of-step}
use Rattle.record.proofs.Peel.{peel_raw}
use Rattle.items.specs.Read.{Read, own, entry, sought, joined, Spot, spot}
use Rattle.items.specs.State.{list_at, state, lies_in}
use Rattle.items.specs.Key.{name_in, key_of, passed_over}
use Rattle.items.specs.Items.{Left, entries_of, sought_of, item_by, by_entries, by_list}
use Rattle.items.specs.Items.{by_attributes, next_by, next_in, next_of}
use Rattle.items.specs.declared.walk.Rest.{Rest}
use Rattle.items.specs.declared.key.Key.{Key}
use Rattle.items.specs.declared.walk.State.{State}
use Rattle.items.proofs.Steps.{entry_moves}
use Rattle.bound.specs.Listing.{own_of, called, Follow}
use Rattle.bound.specs.Lists.{RestOf, Held, end_of, OpenedBy, EveryStep, EveryRead, EveryEntry}
use Rattle.bound.specs.Replay.{Heads, opened, no_list, start, list_of, Done, Fronts, Stands, behind, Replay}
use Rattle.bound.proofs.Stretch.{by-test}
use Rattle.bound.proofs.Finished.{none_done}
use Rattle.bound.proofs.Members.{head, tail, none, uncons}
use Rattle.bound.proofs.Runs.{turned-on, follows}

-- from a state with no list open, also where one is
weaker : (raw : ℕ) (o : Option Rest) (k key : Option Key) (v : State) → Held (state raw None k) v
    → Held (state raw o key) v
weaker raw o k key v (inl h) = inl h
weaker raw o k key v (inr h) = inr (h.0, λ m q. let r = h.1 m q in let e = r.open_list in absurd (cc))

rises : (w v : State) → Held w v → w.raw ≤ v.raw
rises w v (inl h) = omega arith
rises w v (inr h) = let e = h.0 in omega arith

-- from an entry's place on, also from before it
earlier : (raw to from next : ℕ) (key : Option Key) (v : State) → from ≤ next
    → Held (state raw (Some (list_at next to)) key) v → Held (state raw (Some (list_at from to)) key) v
earlier raw to from next key v l (inl h) = inl h
earlier raw to from next key v l (inr h) = inr (h.0, λ m q. back m (h.1 m q))
  where
    back : (m : Rest) → RestOf (state raw (Some (list_at next to)) key) m
        → RestOf (state raw (Some (list_at from to)) key) m
    back m r =
        let e : list_at next to ≡ r.list = cc in
        let x : next ≡ r.list.from = ap (λ (y : Rest). y.from) e in
        let z = r.on in
        record {
          list = list_at from to;
          open_list = refl;
          ends = ap (λ (y : Rest). y.to) e ∙ r.ends;
          on = omega arith;
        }

-- a state that was left in the same list, further on
further : (raw to from next : ℕ) (key k : Option Key) → from ≤ next
    → Held (state raw (Some (list_at from to)) key) (state raw (Some (list_at next to)) k)
further raw to from next key k l = inr (refl, λ m q. found m q)
  where
    found : (m : Rest) → Some (list_at next to) ≡ Some m → RestOf (state raw (Some (list_at from to)) key) m
    found m q =
        let e : list_at next to ≡ m = cc in
        let x : next ≡ m.from = ap (λ (y : Rest). y.from) e in
        record { list = list_at from to; open_list = refl; ends = ap (λ (y : Rest). y.to) e; on = omega arith }

closed : (raw : ℕ) (key : Option Key) → Held (state raw None key) (state raw None key)
closed raw key = inr (refl, λ m q. absurd (cc))

module _ (s : List ℕ) (n : RecordNumber) (look : RecordNumber → Option (List ℕ)) where
  held-item : (raw from to : ℕ) (e : Entry) (key : Option Key) (k : Key) (a : Outcome Attribute)
      → Held (state raw (Some (list_at from to)) key) (item_by raw from to e k a).left
  unfolding item_by
  held-item raw from to e key k (refuses r) = further raw to from (from + e.length) key None (omega arith)
  held-item raw from to e key k (gives h) =
      both (λ (l : Left). Held (state raw (Some (list_at from to)) key) l.left) h.resident _ _
      (further raw to from (from + e.length) key None (omega arith))
      (further raw to from (from + e.length) key (Some k) (omega arith))

  held-entries : (raw to : ℕ) (on : Option Key → Left) → ((key : Option Key)
      → Held (state raw None key) (on key).left) → (es : List (Outcome Entry)) (from : ℕ) (key : Option Key)
      → Held (state raw (Some (list_at from to)) key) (by_entries s n look on raw to es from key).left
  unfolding by_entries
  held-entries raw to on c [] from key = weaker raw (Some (list_at from to)) key key (on key).left (c key)
  held-entries raw to on c (refuses r ∷ es) from key = further raw to from from key key (omega arith)
  held-entries raw to on c (gives e ∷ es) from key =
      let P = λ (l : Left). Held (state raw (Some (list_at from to)) key) l.left in
      both P (known_type e.ty) _ _
      (both P (passed_over n key e (name_in s (list_at from to) e)) _ _
      (earlier raw to from (from + e.length) key (by_entries s n look on raw to es (from + e.length) key).left
      (omega arith) (held-entries raw to on c es (from + e.length) key))
      (held-item raw from to e key (key_of e (name_in s (list_at from to) e)) (sought_of s n look e from).answer))
      (further raw to from (from + e.length) key key (omega arith))

  held-list : (raw by : ℕ) → 16 ≤ by → (on : Option Key → Left)
      → ((key : Option Key) → Held (state (raw + by) None key) (on key).left) → (key : Option Key) (a : Outcome Span)
      → Held (state raw None key) (by_list s n look on (raw + by) a key).left
  unfolding by_list
  held-list raw by l on c key (refuses r) = inl (omega arith)
  held-list raw by l on c key (gives p) =
      let v = (by_entries s n look on (raw + by) (p.from + p.bytes)
      (entries_of s n (p.from + p.bytes) p.from) p.from key).left in
      let h = rises (state (raw + by) (Some (list_at p.from (p.from + p.bytes))) key) v
      (held-entries (raw + by) (p.from + p.bytes) on c (entries_of s n (p.from + p.bytes) p.from) p.from key) in
      inl (omega arith)

  held-raws : (hs : List (Outcome Attribute)) (raw : ℕ) → hs ≡ walk_from s n raw → (key : Option Key)
      → Held (state raw None key) (by_attributes s n look hs raw key).left
  unfolding by_attributes
  held-raws [] raw q key = closed raw key
  held-raws (refuses r ∷ hs) raw q key = closed raw key
  held-raws (gives h ∷ hs) raw q key =
      let k = peel_raw s n raw h hs q in
      let x = k.least in
      both (λ (l : Left). Held (state raw None key) l.left) (eqb h.ty attribute_list) _ _
      (held-list raw h.length x (by_attributes s n look hs (raw + h.length))
      (held-raws hs (raw + h.length) k.tail) key (list_in s n h))
      (inl (omega arith))

  held-next : (raw : ℕ) (o : Option Rest) (key : Option Key)
      → Held (state raw o key) (next_by s n look raw o key).left
  unfolding next_by
  held-next raw None key = held-raws (walk_from s n raw) raw refl key
  held-next raw (Some l) key = held-entries raw l.to (by_attributes s n look (walk_from s n raw) raw)
      (held-raws (walk_from s n raw) raw refl) (entries_of s n l.to l.from) l.from key

  stays : (w : State) → Held w w
  stays w = inr (refl, λ m q. record { list = m; open_list = q; ends = refl; on = le_refl m.from })

  held_call : (w : State) → Held w (next_of s n look w).left
  unfolding next_of next_in
  held_call w = both (λ (l : Left). Held w l.left) (lies_in (length s) w.list) _ _ (held-next w.raw w.list w.key)
      (stays w)

  read-on : (h : Heads) (r : Read) → Stands s n look h r
      → (h.raw < (behind s n look h r).raw) ⊎ ((h.raw ≡ (behind s n look h r).raw) ×
      ((behind s n look h r).list.to ≡ h.list.to))
  read-on h (own a) t = let k = (of-step s n h.raw a t.1).least in inl (omega arith)
  read-on h (entry x e) t = inr (refl, refl)
  read-on h (sought f a) t = inr (refl, refl)
  read-on h (joined p e) t = inr (refl, refl)

pub every_step : EveryStep
every_step s n look w = held_call s n look w

pub every_read : EveryRead
every_read s n look h r t = read-on s n look h r t

-- the attribute that opened the list that is read, among some; and where none is open it is read to its end
module _ (s : List ℕ) (n : RecordNumber) (look : RecordNumber → Option (List ℕ)) (room : ℕ → ℕ)
    (all : List Attribute) where
  record Opener (raw : ℕ) (l : Rest) : Type 0 where
    by : Attribute
    own : Contains all by
    ends : end_of by ≡ raw
    holds : by.ty ≡ attribute_list
    span : Span
    opens : list_in s n by ≡ gives span
    begin : span.from ≤ l.from
    end : l.to ≡ span.from + span.bytes

  abbrev Open : ℕ → Rest → Type 0
  Open raw l = Done s n look l ⊎ Opener raw l

  -- the list that an attribute opens, if it does
  by-span : (raw : ℕ) (a : Attribute) → Contains all a → end_of a ≡ raw → a.ty ≡ attribute_list → (b : Outcome Span)
      → list_in s n a ≡ b → Open raw (opened b)
  by-span raw a c e t (refuses r) q = inl (none_done s n look)
  by-span raw a c e t (gives p) q = inr (record {
    by = a;
    own = c;
    ends = e;
    holds = t;
    span = p;
    opens = q;
    begin = le_refl p.from;
    end = refl;
  })

  by-own : (raw : ℕ) (a : Attribute) → Contains all a → end_of a ≡ raw → Open raw (list_of s n look a)
  by-own raw a c e =
      by-test (λ (x : Rest). Open raw x) (eqb a.ty attribute_list) (opened (list_in s n a)) no_list
      (λ t. by-span raw a c e (eqb-true a.ty attribute_list t) (list_in s n a) refl) (λ t. inl (none_done s n look))

  -- an entry of it
  record Opens (x : Spot) (e : Entry) : Type 0 where
    raw : ℕ
    list : Rest
    at_raw : x.list ≡ raw
    at_front : x.place ≡ list.from
    opener : Opener raw list
    most : x.place + e.length ≤ list.to

  here : (h : Heads) (x : Spot) (e : Entry) → x ≡ spot h.raw h.list.from → Fronts s n look h.list e
      → Open h.raw h.list → Opens x e
  here h x e q f (inl d) = let c = sym d ∙ f in absurd (cc)
  here h x e q f (inr o) =
      let p = ap (λ (y : Spot). y.place) q in
      let m = (entry_moves s n h.list.to h.list.from e f).most in
      record {
        raw = h.raw;
        list = h.list;
        at_raw = ap (λ (y : Spot). y.list) q;
        at_front = p;
        opener = o;
        most = omega arith;
      }

  -- behind an entry
  on-past : (h : Heads) (e : Entry) → Fronts s n look h.list e → Open h.raw h.list
      → Open h.raw (list_at (h.list.from + e.length) h.list.to)
  on-past h e f (inl d) = let c = sym d ∙ f in absurd (cc)
  on-past h e f (inr o) = let b = o.begin in inr (record {
    by = o.by;
    own = o.own;
    ends = o.ends;
    holds = o.holds;
    span = o.span;
    opens = o.opens;
    begin = omega arith;
    end = o.end;
  })

  entries-open : (rs : List Read) (h : Heads) → ((a : Attribute) → Contains (own_of rs) a → Contains all a)
      → Open h.raw h.list → Replay s n look h rs
      → (x : Spot) (e : Entry) → Contains rs (entry x e) → Opens x e
  entries-open [] h i o r x e c = absurd (none (entry x e) c)
  entries-open (own a ∷ rs) h i o r x e c =
      let g = of-step s n h.raw a r.0.1 in let q = g.stands in
      let there = i a (head a (own_of rs)) in
      ⊎_elim
      (λ (d : own a ≡ entry x e). absurd (cc))
      (λ (d : Contains rs (entry x e)). entries-open rs (behind s n look h (own a))
      (λ b k. i b (tail a (own_of rs) b k)) (by-own (h.raw + a.length) a there (omega arith)) r.1 x e d)
      (uncons (own a) rs (entry x e) c)
  entries-open (entry y f ∷ rs) h i o r x e c =
      ⊎_elim
      (λ (d : entry y f ≡ entry x e). let same : y ≡ x = cc in let like : f ≡ e = cc in here h x e (sym same ∙ r.0.0)
      (subst (Fronts s n look h.list) like r.0.1) o)
      (λ (d : Contains rs (entry x e)). entries-open rs (behind s n look h (entry y f)) i
      (on-past h f r.0.1 o) r.1 x e d)
      (uncons (entry y f) rs (entry x e) c)
  entries-open (sought f a ∷ rs) h i o r x e c =
      ⊎_elim
      (λ (d : sought f a ≡ entry x e). absurd (cc))
      (λ (d : Contains rs (entry x e)). entries-open rs (behind s n look h (sought f a)) i o r.1 x e d)
      (uncons (sought f a) rs (entry x e) c)
  entries-open (joined p f ∷ rs) h i o r x e c =
      ⊎_elim
      (λ (d : joined p f ≡ entry x e). absurd (cc))
      (λ (d : Contains rs (entry x e)). entries-open rs (behind s n look h (joined p f)) i o r.1 x e d)
      (uncons (joined p f) rs (entry x e) c)

module _ (s : List ℕ) (n : RecordNumber) (look : RecordNumber → Option (List ℕ)) (room : ℕ → ℕ) where
  -- attributes that follow one another end one behind the other
  beyond : (l : List Attribute) (at end : ℕ) → Follow s n look room at l end → (a : Attribute) → Contains l a
      → at < end_of a
  beyond [] at end f a c = absurd (none a c)
  beyond (h ∷ l) at end f a c =
      let g = of-step s n at h f.0 in let q = g.stands in let m = f.1 in
      ⊎_elim
      (λ (d : h ≡ a). subst (λ (y : Attribute). at < end_of y) d (omega arith))
      (λ (d : Contains l a). let b = beyond l (at + h.length) end f.3 a d in omega arith)
      (uncons h l a c)

  one-end : (l : List Attribute) (at end : ℕ) → Follow s n look room at l end → (a b : Attribute) → Contains l a
      → Contains l b → end_of a ≡ end_of b → a ≡ b
  one-end [] at end f a b c d e = absurd (none a c)
  one-end (h ∷ l) at end f a b c d e =
      let g = of-step s n at h f.0 in let q = g.stands in
      ⊎_elim
      (λ (x : h ≡ a). ⊎_elim
      (λ (y : h ≡ b). sym x ∙ y)
      (λ (y : Contains l b). let z = beyond l (at + h.length) end f.3 b y in let w = ap end_of x in absurd
      (omega arith))
      (uncons h l b d))
      (λ (x : Contains l a). ⊎_elim
      (λ (y : h ≡ b). let z = beyond l (at + h.length) end f.3 a x in let w = ap end_of y in absurd (omega arith))
      (λ (y : Contains l b). one-end l (at + h.length) end f.3 a b x y e)
      (uncons h l b d))
      (uncons h l a c)

  opened_by : (read : List Read) (x : Spot) (e : Entry) → Opens s n look room (own_of read) x e
      → OpenedBy s n look room read x e
  opened_by read x e o =
      let p = o.opener in let a = o.at_front in let b = p.begin in let c = p.end in let m = o.most in
      record {
        by = p.by;
        own = p.own;
        ends = p.ends ∙ sym o.at_raw;
        holds = p.holds;
        span = p.span;
        opens = p.opens;
        begin = omega arith;
        end = omega arith;
      }

pub every_entry : EveryEntry
every_entry s n look room k c read w l =
    let rs = read ++ (called s n look room w).reads in
    record {
      opened = λ x e i. opened_by s n look room rs x e
          (entries-open s n look room (own_of rs) rs (start s) (λ a b. b) (inl (none_done s n look))
          (turned-on s n look room l).replay x e i);
      one = λ a b i j e. one-end s n look room (own_of rs) (first_attribute s) _ (follows s n look room l) a b i j e;
    }
