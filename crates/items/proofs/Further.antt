-- A call leaves the walk further on than it found it: past what it passed over, its list the rest of the list that
-- there was.
use Rattle.std.proofs.Common.{ℕ, ◌+◌, ◌<◌, ◌≤◌, ◌≡◌, Bool, true, false, List, [], ◌∷◌, length, eqb, refl, arith}
use Rattle.std.specs.Prelude.{Option, Some, None, IfSome}
use Rattle.fields.specs.Pick.{pick}
use Rattle.fields.specs.Answer.{gives, refuses, refusal, Outcome}
use Rattle.fields.specs.Known.{known_type, attribute_list}
use Rattle.fields.specs.declared.RecordNumber.{RecordNumber}
use Rattle.fields.proofs.Cases.{both}
use Rattle.fields.specs.declared.Cause.TheVariants.{UnknownType, BadState}
use Rattle.list.specs.declared.Entry.{Entry}
use Rattle.record.specs.Inside.{Inside}
use Rattle.record.specs.Value.{list_in}
use Rattle.record.specs.Walk.{walk_from}
use Rattle.record.specs.declared.layout.Attribute.{Attribute}
use Rattle.record.specs.declared.layout.Span.{Span}
use Rattle.record.proofs.Peel.{peel_raw}
use Rattle.items.specs.State.{list_at, state, lies_in}
use Rattle.items.specs.Lies.{Lies}
use Rattle.items.specs.Key.{name_in, key_of, passed_over}
use Rattle.items.specs.Items.{
  Left,
  leaves,
  entries_of,
  sought_of,
  item_by,
  by_entries,
  by_list,
  by_attributes,
  next_by,
  next_in,
  next_of,
}
use Rattle.items.specs.Laws.{Rests, Further, CallsGoOn}
use Rattle.items.specs.declared.walk.Rest.{Rest}
use Rattle.items.specs.declared.key.Key.{Key}
use Rattle.items.specs.declared.walk.State.{State}
use Rattle.items.proofs.Steps.{list_room}
use Rattle.items.proofs.Peel.{peel}
use Rattle.items.proofs.Bounds.{lies}

-- the state v is ahead of a raw place and an open list, in a record of m bytes
pub record Ahead (m raw : ℕ) (o : Option Rest) (v : State) : Type 0 where
  pub at : raw ≤ v.raw
  pub list : v.raw ≡ raw → Rests o v.list
  pub lies : IfSome v.list (Lies m)

-- the open list is no longer than its rest
rests_back : (from at to : ℕ) (o : Option Rest) → from ≤ at → Rests (Some (list_at at to)) o
    → Rests (Some (list_at from to)) o
rests_back from at to None l r = tt
rests_back from at to (Some k) l r = let x = r.0 in (omega arith, r.1)

rests_none : (k : Option Rest) (o : Option Rest) → Rests None o → Rests k o
rests_none None o r = r
rests_none (Some k) None r = tt
rests_none (Some k) (Some l) r = absurd r

module _ (m raw from to : ℕ) where
  -- the rest of the list, from a place on
  at_rest : (at : ℕ) → from ≤ at → at ≤ to → to ≤ m → (key : Option Key)
      → Ahead m raw (Some (list_at from to)) (state raw (Some (list_at at to)) key)
  at_rest at l k z key = record { at = omega arith; list = λ e. (l, refl); lies = record { order = k; most = z } }

  by_item : (e : Entry) (key : Key) → from + e.length ≤ to → to ≤ m → (a : Outcome Attribute)
      → Ahead m raw (Some (list_at from to)) (item_by raw from to e key a).left
  unfolding item_by
  by_item e key l z (refuses r) = at_rest (from + e.length) (omega arith) l z None
  by_item e key l z (gives h) =
      both (λ (x : Left). Ahead m raw (Some (list_at from to)) x.left) h.resident
      (leaves (gives (record { file = e.file; attribute = h; rest = None }))
      (state raw (Some (list_at (from + e.length) to)) None))
      (leaves (gives (record { file = e.file; attribute = h; rest = Some (list_at from to) }))
      (state raw (Some (list_at (from + e.length) to)) (Some key)))
      (at_rest (from + e.length) (omega arith) l z None) (at_rest (from + e.length) (omega arith) l z
      (Some key))

module _ (s : List ℕ) (n : RecordNumber) (look : RecordNumber → Option (List ℕ)) where
  abbrev Goes : ℕ → Option Rest → Left → Type 0
  Goes raw o l = Ahead (length s) raw o l.left

  closed : (raw from to : ℕ) (v : State) → Ahead (length s) raw None v
      → Ahead (length s) raw (Some (list_at from to)) v
  closed raw from to v a = record {
    at = a.at;
    list = λ e. rests_none (Some (list_at from to)) v.list (a.list e);
    lies = a.lies;
  }

  back : (raw from at to : ℕ) → from ≤ at → (v : State) → Ahead (length s) raw (Some (list_at at to)) v
      → Ahead (length s) raw (Some (list_at from to)) v
  back raw from at to l v a = record {
    at = a.at;
    list = λ e. rests_back from at to v.list l (a.list e);
    lies = a.lies;
  }

  entries_on : (on : Option Key → Left) (raw to : ℕ) → to ≤ length s → ((key : Option Key) → Goes raw None (on key))
      → (es : List (Outcome Entry)) (from : ℕ) (key : Option Key) → from ≤ to → es ≡ entries_of s n to from
      → Goes raw (Some (list_at from to)) (by_entries s n look on raw to es from key)
  unfolding by_entries
  entries_on on raw to z f [] from key l q = closed raw from to (on key).left (f key)
  entries_on on raw to z f (refuses r ∷ es) from key l q = at_rest (length s) raw from to from (omega arith) l z key
  entries_on on raw to z f (gives x ∷ es) from key l q =
      let p = peel s n to from x es q in let a = p.least in let b = p.most in
      let P : Left → Type 0 = λ (y : Left). Ahead (length s) raw (Some (list_at from to)) y.left in
      both P (known_type x.ty)
      _ (leaves (refuses (refusal UnknownType n from)) (state raw (Some (list_at (from + x.length) to)) key))
      (both P (passed_over n key x (name_in s (list_at from to) x)) _ _
      (back raw from (from + x.length) to (omega arith) (by_entries s n look on raw to es (from + x.length) key).left
      (entries_on on raw to z f es (from + x.length) key b p.tail))
      (by_item (length s) raw from to x (key_of x (name_in s (list_at from to) x)) b z
      (sought_of s n look x from).answer))
      (at_rest (length s) raw from to (from + x.length) (omega arith) b z key)

  -- behind the attribute that opened it
  past : (raw at : ℕ) (o : Option Rest) → raw < at → (v : State) → Ahead (length s) at o v
      → Ahead (length s) raw None v
  past raw at o l v a = let x = a.at in record { at = omega arith; list = λ e. absurd (omega arith); lies = a.lies }

  list_on : (on : Option Key → Left) (raw at : ℕ) → raw < at → ((key : Option Key) → Goes at None (on key))
      → (h : Attribute) → Inside s h
      → (a : Outcome Span) → a ≡ list_in s n h → (key : Option Key) → Goes raw None (by_list s n look on at a key)
  unfolding by_list
  list_on on raw at l f h i (refuses r) q key = record { at = omega arith; list = λ e. tt; lies = tt }
  list_on on raw at l f h i (gives p) q key =
      let r = list_room s n h p i q in
      past raw at (Some (list_at p.from (p.from + p.bytes))) l _
      (entries_on on at (p.from + p.bytes) r.most f (entries_of s n (p.from + p.bytes) p.from) p.from key
      (omega arith) refl)

  attributes_on : (hs : List (Outcome Attribute)) (raw : ℕ) (key : Option Key) → hs ≡ walk_from s n raw
      → Goes raw None (by_attributes s n look hs raw key)
  unfolding by_attributes
  attributes_on [] raw key q = record { at = omega arith; list = λ e. tt; lies = tt }
  attributes_on (refuses r ∷ hs) raw key q = record { at = omega arith; list = λ e. tt; lies = tt }
  attributes_on (gives h ∷ hs) raw key q =
      let p = peel_raw s n raw h hs q in let a = p.least in let b = p.most in
      let l : raw < raw + h.length = omega arith in
      both (λ (y : Left). Ahead (length s) raw None y.left) (eqb h.ty attribute_list) _
      (leaves (gives (record { file = n; attribute = h; rest = None })) (state (raw + h.length) None key))
      (list_on (by_attributes s n look hs (raw + h.length)) raw (raw + h.length) l
      (λ y. attributes_on hs (raw + h.length) y p.tail) h p.inside (list_in s n h) refl key)
      (record { at = omega arith; list = λ e. tt; lies = tt })

  by_on : (raw : ℕ) (o : Option Rest) (key : Option Key) → IfSome o (Lies (length s))
      → Goes raw o (next_by s n look raw o key)
  unfolding next_by
  by_on raw None key l = attributes_on (walk_from s n raw) raw key refl
  by_on raw (Some k) key l =
      entries_on (by_attributes s n look (walk_from s n raw) raw) raw k.to l.most
      (λ y. attributes_on (walk_from s n raw) raw y refl) (entries_of s n k.to k.from) k.from key l.order refl

same_rests : (o : Option Rest) → Rests o o
same_rests None = tt
same_rests (Some l) = (omega arith, refl)

by_test : (P : Left → Type 0) (b : Bool) (x y : Left) → (b ≡ true → P x) → P y → P (pick b x y)
by_test P true x y f q = f refl
by_test P false x y f q = q

pub calls_go_on : CallsGoOn
unfolding next_of next_in
calls_go_on s n look w =
    by_test (λ (x : Left). Further (length s) w x.left) (lies_in (length s) w.list) (next_in s n look w)
    (leaves (refuses (refusal BadState n 0)) w)
    (λ e. let a = by_on s n look w.raw w.list w.key (lies s n w.list e) in record
    { raw = a.at; list = a.list; lies = λ _. a.lies })
    (record { raw = omega arith; list = λ e. same_rests w.list; lies = λ x. x })
