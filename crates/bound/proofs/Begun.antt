-- Where a call's answer comes from: an attribute of the walk's own, or the search by an entry, which it read whole. And
-- a list of an item begins at an entry that the call read, in the open list.
use Rattle.std.proofs.Common.{ℕ, ◌+◌, ◌≡◌, List, [], ◌∷◌, ◌++◌, length, eqb, refl, sym, ap, subst}
use Rattle.std.proofs.Common.{◌∙◌, append_assoc}
use Rattle.std.proofs.lemmas.List.{append-nil}
use mathlib.Core.Logic.{inl, inr, ⊎_elim}
use Rattle.std.specs.Prelude.{Option, Some, None}
use Rattle.std.specs.List.{Contains}
use Rattle.fields.specs.Answer.{Answer, gives, ends, refuses, refusal, Outcome}
use Rattle.fields.specs.Known.{known_type, attribute_list}
use Rattle.fields.specs.declared.RecordNumber.{RecordNumber}
use Rattle.fields.proofs.Cases.{both}
use Rattle.fields.specs.declared.Cause.TheVariants.{UnknownType, BadState}
use Rattle.list.specs.declared.Entry.{Entry}
use Rattle.record.specs.Walk.{walk_from}
use Rattle.record.specs.Value.{list_in}
use Rattle.record.specs.declared.layout.Attribute.{Attribute}
use Rattle.record.specs.declared.layout.Span.{Span}
use Rattle.items.specs.Read.{Read, own, entry, spot}
use Rattle.items.specs.State.{list_at, state, lies_in}
use Rattle.items.specs.Key.{name_in, key_of, passed_over}
use Rattle.items.specs.Items.{Left, leaves, reading, item, entries_of, sought_of, item_by}
use Rattle.items.specs.Items.{by_entries, by_list, by_attributes, next_by, next_in, next_of}
use Rattle.items.specs.declared.walk.Rest.{Rest}
use Rattle.items.specs.declared.key.Key.{Key}
use Rattle.items.specs.declared.walk.State.{State}
use Rattle.items.specs.declared.walk.Item.{Item}
use Rattle.bound.specs.Listing.{searched, BySearch, OfBase, From, Begun}
use Rattle.bound.proofs.Owns.{Own, AllOwn, of-base, entries-own, walk-own, list-own}
use Rattle.bound.proofs.Members.{head, deeper}

module _ (s : List ℕ) (n : RecordNumber) (look : RecordNumber → Option (List ℕ)) where
  abbrev Came : List Read → Answer Item → Type 0
  Came rs a = From s n look (λ k. 0) rs a

  -- where a call reads rs before and gives with the state left
  abbrev BegunBy : List Read → Answer Item → State → Type 0
  BegunBy rs (gives i) w = Came rs (gives i) × ((l : Rest) → i.rest ≡ Some l → Begun rs w l)
  BegunBy rs ends w = Unit {0}
  BegunBy rs (refuses r) w = Came rs (refuses r)

  abbrev Good : Left → Type 0
  Good l = BegunBy l.reads l.answer l.left

  -- behind other reads
  behind : (rs us : List Read) (a : Outcome Attribute) → BySearch s n look us a → BySearch s n look (rs ++ us) a
  behind rs us a x = record {
    by = x.by;
    at = x.at;
    before = rs ++ x.before;
    all = ap (λ (z : List Read). rs ++ z) x.all
        ∙ sym (append_assoc rs x.before (entry x.at x.by ∷ searched s n look x.by x.at.place));
    answers = x.answers;
  }

  later : (rs us : List Read) (a : Answer Item) (w : State) → BegunBy us a w → BegunBy (rs ++ us) a w
  unfolding behind
  later rs us (gives i) w b = (
    ⊎_elim (λ (c : Contains us (own i.attribute)). inl (deeper rs us (own i.attribute) c))
        (λ (c : (x : BySearch s n look us (gives i.attribute)) × (x.by.file ≡ i.file)).
        inr (behind rs us (gives i.attribute) c.0, c.1)) b.0,
    λ l e. let t = b.1 l e in record
        { by = t.by; seen = deeper rs us (entry (spot w.raw l.from) t.by) t.seen; left = t.left },
  )
  later rs us ends w b = tt
  later rs us (refuses r) w b =
      ⊎_elim (λ (o : OfBase n r). inl o)
      (λ (x : BySearch s n look us (refuses r)). inr (behind rs us (refuses r) x)) b

  more : (rs : List Read) (l : Left) → Good l → Good (reading rs l)
  more rs l g = later rs l.reads l.answer l.left g

  none-read : (raw from to : ℕ) (e : Entry) (key : Key) (a : Outcome Attribute)
      → (item_by raw from to e key a).reads ≡ []
  unfolding item_by
  none-read raw from to e key (refuses r) = refl
  none-read raw from to e key (gives h) = both (λ (l : Left). l.reads ≡ []) h.resident _ _ refl refl

  -- behind the entry and the search
  module _ (raw from to : ℕ) (e : Entry) (key : Key) where
    abbrev all-read : List Read → List Read
    all-read us = entry (spot raw from) e ∷ searched s n look e from ++ us

    by-search : (us : List Read) → us ≡ [] → (a : Outcome Attribute) → (sought_of s n look e from).answer ≡ a
        → BySearch s n look (all-read us) a
    by-search us v a q = record {
      by = e;
      at = spot raw from;
      before = [];
      all = ap all-read v ∙ ap (λ (z : List Read). entry (spot raw from) e ∷ z)
          (append-nil (searched s n look e from));
      answers = q;
    }

    found : (us : List Read) → us ≡ [] → (a : Outcome Attribute) → (sought_of s n look e from).answer ≡ a
        → BegunBy (all-read us) (item_by raw from to e key a).answer (item_by raw from to e key a).left
    unfolding item_by by-search
    found us v (refuses r) q = inr (by-search us v (refuses r) q)
    found us v (gives h) q =
        both (λ (l : Left). BegunBy (all-read us) l.answer l.left) h.resident
        (leaves (gives (item e.file h None)) (state raw (Some (list_at (from + e.length) to)) None))
        (leaves (gives (item e.file h (Some (list_at from to))))
        (state raw (Some (list_at (from + e.length) to)) (Some key)))
        (inr (by-search us v (gives h) q, refl), λ l q. absurd (cc)) (
          inr (by-search us v (gives h) q, refl),
          λ l q. let same : list_at from to ≡ l = cc in
              subst (λ (x : Rest). Begun (all-read us) (state raw (Some (list_at (from + e.length) to))
              (Some key)) x) same
              (record { by = e; seen = head (entry (spot raw from) e) (searched s n look e from ++ us); left = refl }),
        )

  over_entries : (raw to : ℕ) (on : Option Key → Left) → ((key : Option Key) → Good (on key))
      → (es : List (Outcome Entry)) → AllOwn n es → (from : ℕ) (key : Option Key)
      → Good (by_entries s n look on raw to es from key)
  unfolding by_entries
  over_entries raw to on c [] o from key = c key
  over_entries raw to on c (refuses r ∷ es) o from key = inl o.0
  over_entries raw to on c (gives e ∷ es) o from key =
      let x = sought_of s n look e from in
      let name = name_in s (list_at from to) e in
      let i = item_by raw from to e (key_of e name) x.answer in
      let P = λ (l : Left). Good (reading (entry (spot raw from) e ∷ []) l) in
      both P (known_type e.ty) _ _
      (both P (passed_over n key e name) _ _
      (more (entry (spot raw from) e ∷ []) (by_entries s n look on raw to es (from + e.length) key)
      (over_entries raw to on c es o.1 (from + e.length) key))
      (found raw from to e (key_of e name) i.reads (none-read raw from to e (key_of e name) x.answer) x.answer refl))
      (inl (of-base n UnknownType from (λ q. cc)))

  over_list : (raw : ℕ) (on : Option Key → Left) → ((key : Option Key) → Good (on key))
      → (key : Option Key) (a : Outcome Span) → Own n a → Good (by_list s n look on raw a key)
  unfolding by_list
  over_list raw on c key (refuses r) o = inl o
  over_list raw on c key (gives p) o = over_entries raw (p.from + p.bytes) on c
      (entries_of s n (p.from + p.bytes) p.from) (entries-own s n (p.from + p.bytes) p.from) p.from key

  over_raws : (hs : List (Outcome Attribute)) → AllOwn n hs → (raw : ℕ) (key : Option Key)
      → Good (by_attributes s n look hs raw key)
  unfolding by_attributes
  over_raws [] o raw key = tt
  over_raws (refuses r ∷ hs) o raw key = inl o.0
  over_raws (gives h ∷ hs) o raw key =
      let on = by_attributes s n look hs (raw + h.length) in
      both (λ (l : Left). Good (reading (own h ∷ []) l)) (eqb h.ty attribute_list) _
      (leaves (gives (item n h None)) (state (raw + h.length) None key))
      (more (own h ∷ []) (by_list s n look on (raw + h.length) (list_in s n h) key)
      (over_list (raw + h.length) on (over_raws hs o.1 (raw + h.length)) key (list_in s n h) (list-own s n h)))
      (inl (head (own h) []), λ l q. absurd (cc))

  over_next : (raw : ℕ) (o : Option Rest) (key : Option Key) → Good (next_by s n look raw o key)
  unfolding next_by
  over_next raw None key = over_raws (walk_from s n raw) (walk-own s n raw) raw key
  over_next raw (Some l) key = over_entries raw l.to (by_attributes s n look (walk_from s n raw) raw)
      (over_raws (walk_from s n raw) (walk-own s n raw) raw) (entries_of s n l.to l.from)
      (entries-own s n l.to l.from) l.from key

  over_call : (w : State) → Good (next_of s n look w)
  unfolding next_of next_in
  over_call w = both Good (lies_in (length s) w.list) _ (leaves (refuses (refusal BadState n 0)) w)
      (over_next w.raw w.list w.key) (inl (of-base n BadState 0 (λ q. cc)))

  begun_by : (w : State) (i : Item) → (next_of s n look w).answer ≡ gives i
      → BegunBy (next_of s n look w).reads (gives i) (next_of s n look w).left
  begun_by w i e =
      subst (λ (a : Answer Item). BegunBy (next_of s n look w).reads a (next_of s n look w).left) e (over_call w)

  came-by : (l : Left) (a : Answer Item) → l.answer ≡ a → BegunBy l.reads a l.left → Came l.reads a
  came-by l (gives i) e b = b.0
  came-by l ends e b = tt
  came-by l (refuses r) e b = b

  pub came : (w : State) → Came (next_of s n look w).reads (next_of s n look w).answer
  came w = came-by (next_of s n look w) (next_of s n look w).answer refl (over_call w)

  pub begun : (w : State) (i : Item) → (next_of s n look w).answer ≡ gives i → (l : Rest) → i.rest ≡ Some l
      → Begun (next_of s n look w).reads (next_of s n look w).left l
  begun w i e = (begun_by w i e).1
