-- Where a call ends the walk, it leaves the raw walk at its end and no list, so that another call ends there again.
use Rattle.std.proofs.Common.{ℕ, ◌+◌, ◌≡◌, List, [], ◌∷◌, length, eqb, refl, sym}
use Rattle.std.specs.Prelude.{Option, Some, None}
use Rattle.fields.specs.Answer.{gives, ends, refuses, refusal, Outcome}
use Rattle.fields.specs.Known.{known_type, attribute_list}
use Rattle.fields.specs.declared.RecordNumber.{RecordNumber}
use Rattle.fields.proofs.Cases.{both}
use Rattle.fields.specs.declared.Cause.TheVariants.{UnknownType, BadState}
use Rattle.list.specs.declared.Entry.{Entry}
use Rattle.record.specs.Value.{list_in}
use Rattle.record.specs.Walk.{walk_from}
use Rattle.record.specs.declared.layout.Attribute.{Attribute}
use Rattle.record.specs.declared.layout.Span.{Span}
use Rattle.record.proofs.Peel.{peel_raw}
use Rattle.items.specs.State.{list_at, state, lies_in}
use Rattle.items.specs.Key.{name_in, key_of, passed_over}
use Rattle.items.specs.Items.{Left, leaves, entries_of, sought_of, item_by, by_entries, by_list}
use Rattle.items.specs.Items.{by_attributes, next_by, next_in, next_of}
use Rattle.items.specs.Laws.{EndsStay}
use Rattle.items.specs.declared.walk.Rest.{Rest}
use Rattle.items.specs.declared.key.Key.{Key}
use Rattle.items.specs.declared.walk.State.{State}

-- a walk that stands at its end
pub record AtEnd (s : List ℕ) (n : RecordNumber) (v : State) : Type 0 where
  pub list : v.list ≡ None
  pub walk : walk_from s n v.raw ≡ []

module _ (s : List ℕ) (n : RecordNumber) (look : RecordNumber → Option (List ℕ)) where
  abbrev Ended : Left → Type 0
  Ended l = l.answer ≡ ends → AtEnd s n l.left

  by_item : (raw from to : ℕ) (e : Entry) (key : Key) (a : Outcome Attribute) → Ended (item_by raw from to e key a)
  unfolding item_by
  by_item raw from to e key (refuses r) q = absurd (cc)
  by_item raw from to e key (gives h) q =
      both (λ (x : Left). x.answer ≡ ends → AtEnd s n x.left) h.resident
      (leaves (gives (record { file = e.file; attribute = h; rest = None }))
      (state raw (Some (list_at (from + e.length) to)) None))
      (leaves (gives (record { file = e.file; attribute = h; rest = Some (list_at from to) }))
      (state raw (Some (list_at (from + e.length) to)) (Some key)))
      (λ g. absurd (cc)) (λ g. absurd (cc)) q

  entries_ended : (on : Option Key → Left) (raw to : ℕ) → ((key : Option Key) → Ended (on key))
      → (es : List (Outcome Entry)) (from : ℕ) (key : Option Key) → Ended (by_entries s n look on raw to es from key)
  unfolding by_entries
  entries_ended on raw to f [] from key q = f key q
  entries_ended on raw to f (refuses r ∷ es) from key q = absurd (cc)
  entries_ended on raw to f (gives x ∷ es) from key q =
      let P : Left → Type 0 = λ (l : Left). l.answer ≡ ends → AtEnd s n l.left in
      both P (known_type x.ty)
      _ (leaves (refuses (refusal UnknownType n from)) (state raw (Some (list_at (from + x.length) to)) key))
      (both P (passed_over n key x (name_in s (list_at from to) x)) _ _
      (entries_ended on raw to f es (from + x.length) key)
      (by_item raw from to x (key_of x (name_in s (list_at from to) x)) (sought_of s n look x from).answer))
      (λ g. absurd (cc)) q

  list_ended : (on : Option Key → Left) (raw : ℕ) → ((key : Option Key) → Ended (on key)) → (a : Outcome Span)
      → (key : Option Key) → Ended (by_list s n look on raw a key)
  unfolding by_list
  list_ended on raw f (refuses r) key q = absurd (cc)
  list_ended on raw f (gives p) key q = entries_ended on raw (p.from + p.bytes) f
      (entries_of s n (p.from + p.bytes) p.from) p.from key q

  attributes_ended : (hs : List (Outcome Attribute)) (raw : ℕ) (key : Option Key) → hs ≡ walk_from s n raw
      → Ended (by_attributes s n look hs raw key)
  unfolding by_attributes
  attributes_ended [] raw key q e = record { list = refl; walk = sym q }
  attributes_ended (refuses r ∷ hs) raw key q e = absurd (cc)
  attributes_ended (gives h ∷ hs) raw key q e =
      let p = peel_raw s n raw h hs q in
      both (λ (l : Left). l.answer ≡ ends → AtEnd s n l.left) (eqb h.ty attribute_list) _
      (leaves (gives (record { file = n; attribute = h; rest = None })) (state (raw + h.length) None key))
      (list_ended (by_attributes s n look hs (raw + h.length)) (raw + h.length)
      (λ y. attributes_ended hs (raw + h.length) y p.tail) (list_in s n h) key)
      (λ g. absurd (cc)) e

  by_ended : (raw : ℕ) (o : Option Rest) (key : Option Key) → Ended (next_by s n look raw o key)
  unfolding next_by
  by_ended raw None key q = attributes_ended (walk_from s n raw) raw key refl q
  by_ended raw (Some l) key q =
      entries_ended (by_attributes s n look (walk_from s n raw) raw) raw l.to
      (λ y. attributes_ended (walk_from s n raw) raw y refl) (entries_of s n l.to l.from) l.from key q

  at_end : (w : State) → Ended (next_of s n look w)
  unfolding next_of next_in
  at_end w q =
      both (λ (l : Left). l.answer ≡ ends → AtEnd s n l.left) (lies_in (length s) w.list) _
      (leaves (refuses (refusal BadState n 0)) w)
      (by_ended w.raw w.list w.key) (λ g. absurd (cc)) q

  again : (v : State) → AtEnd s n v → next_of s n look v ≡ leaves ends v
  unfolding next_of next_in next_by by_attributes lies_in
  again v a = let l = a.list in let w = a.walk in rw (l, w) refl

pub ends_stay : EndsStay
ends_stay s n look w q = again s n look (next_of s n look w).left (at_end s n look w q)
