-- An item comes by a raw attribute or by an entry, and so its record is found again.
use Rattle.std.proofs.Common.{ℕ, ◌+◌, ◌≡◌, ◌⊎◌, inl, inr, Bool, true, false, List, [], ◌∷◌, length, eqb, refl, sym, ap}
use Rattle.std.proofs.Common.{◌∙◌, subst}
use borrow.Author.Tests.{eq-eqb}
use Rattle.std.specs.Prelude.{Option, Some, None}
use Rattle.fields.specs.Pick.{pick}
use Rattle.fields.specs.Answer.{Outcome, Answer, gives, refuses, refusal}
use Rattle.fields.specs.Known.{known_type, attribute_list}
use Rattle.fields.specs.declared.RecordNumber.{RecordNumber}
use Rattle.fields.specs.declared.Refusal.{Refusal}
use Rattle.fields.specs.declared.Cause.TheVariants.{UnknownType, NoRecord, NoAttribute, BadState}
use Rattle.fields.proofs.Cases.{both, not-second}
use Rattle.fields.proofs.Answers.{refused-given}
use Rattle.list.specs.Entry.{entry_of}
use Rattle.list.specs.declared.Entry.{Entry}
use Rattle.record.specs.Open.{Lent, lent, open_of}
use Rattle.record.specs.Value.{list_in}
use Rattle.record.specs.Walk.{step_at, walk_from}
use Rattle.record.specs.declared.layout.Attribute.{Attribute}
use Rattle.record.specs.declared.layout.Span.{Span}
use Rattle.record.proofs.Given.{of-step}
use Rattle.record.proofs.Peel.{peel_raw}
use Rattle.record.proofs.Searches.{found-stands}
use Rattle.items.specs.State.{list_at, state, rest_of, lies_in}
use Rattle.items.specs.Lookup.{opened_as, held_by, lookup_of}
use Rattle.items.specs.Key.{name_in, key_of, passed_over}
use Rattle.items.specs.Items.{Left, leaves, item, entries_of, found_in, sought_of, item_by, by_entries}
use Rattle.items.specs.Items.{by_list, by_attributes, next_by, next_in, next_of}
use Rattle.items.specs.Laws.{OwnItem, EntryItem, FoundAgain, ItemsCome, ItemsAreFoundAgain}
use Rattle.items.specs.declared.walk.Rest.{Rest}
use Rattle.items.specs.declared.key.Key.{Key}
use Rattle.items.specs.declared.walk.State.{State}
use Rattle.items.specs.declared.walk.Item.{Item}
use Rattle.items.proofs.Opened.{opened_file}
use Rattle.items.proofs.Peel.{peel}

the-item : {i j : Item} → Answer.gives i ≡ Answer.gives j → i ≡ j
the-item e = cc

module _ (s : List ℕ) (n : RecordNumber) (look : RecordNumber → Option (List ℕ)) where
  abbrev Comes : Item → Type 0
  Comes i = OwnItem s n look i ⊎ EntryItem s n look i

  -- where a call gives an item, it comes so
  Came : Left → Type 0
  Came l = (i : Item) → l.answer ≡ gives i → Comes i

  by-item : (raw : ℕ) (l : Rest) (e : Entry) (key : Key) → entry_of (rest_of s l) n l.from ≡ gives e
      → known_type e.ty ≡ true → (a : Outcome Attribute) → (sought_of s n look e l.from).answer ≡ a
      → Came (item_by raw l.from l.to e key a)
  unfolding Came item_by
  by-item raw l e key g k (refuses r) q i p = absurd (cc)
  by-item raw l e key g k (gives h) q i p = found h.resident refl p
    where
      come : (o : Option Rest) → o ≡ pick h.resident None (Some l) → item e.file h o ≡ i → Comes i
      come o t u = subst Comes u (inr (record {
        by = e;
        list = l;
        stands = g;
        known = k;
        file = refl;
        found = q;
        rest = t;
      }))

      found : (t : Bool) → h.resident ≡ t
          → (pick t (leaves (gives (item e.file h None)) (state raw (Some (list_at (l.from + e.length) l.to)) None))
          (leaves (gives (item e.file h (Some (list_at l.from l.to))))
          (state raw (Some (list_at (l.from + e.length) l.to)) (Some key)))).answer ≡ gives i → Comes i
      found true t u = come None (rw t refl) (the-item u)
      found false t u = come (Some l) (rw t refl) (the-item u)

  come-entries : (on : Option Key → Left) (raw to : ℕ) → ((key : Option Key) → Came (on key))
      → (es : List (Outcome Entry)) (from : ℕ) (key : Option Key) → es ≡ entries_of s n to from
      → Came (by_entries s n look on raw to es from key)
  unfolding Came by_entries
  come-entries on raw to f [] from key q i p = f key i p
  come-entries on raw to f (refuses r ∷ es) from key q i p = absurd (cc)
  come-entries on raw to f (gives e ∷ es) from key q i p =
      let y = peel s n to from e es q in
      by-test (known_type e.ty) _ (leaves (refuses (refusal UnknownType n from))
      (state raw (Some (list_at (from + e.length) to)) key))
      (λ k. both (λ (l : Left). l.answer ≡ gives i → Comes i) (passed_over n key e (name_in s (list_at from to) e)) _ _
      (come-entries on raw to f es (from + e.length) key y.tail i)
      (by-item raw (list_at from to) e (key_of e (name_in s (list_at from to) e)) y.stands k
      (sought_of s n look e from).answer refl i))
      (λ u. absurd (cc)) p
    where
      by-test : (t : Bool) (x y : Left) → (t ≡ true → x.answer ≡ gives i → Comes i) → (y.answer ≡ gives i → Comes i)
          → (pick t x y).answer ≡ gives i → Comes i
      by-test true x y a b = a refl
      by-test false x y a b = b

  come-list : (on : Option Key → Left) (raw : ℕ) → ((key : Option Key) → Came (on key)) → (a : Outcome Span)
      → (key : Option Key) → Came (by_list s n look on raw a key)
  unfolding Came by_list
  come-list on raw f (refuses r) key i p = absurd (cc)
  come-list on raw f (gives x) key i p =
      come-entries on raw (x.from + x.bytes) f (entries_of s n (x.from + x.bytes) x.from) x.from key refl i p

  come-attributes : (hs : List (Outcome Attribute)) (raw : ℕ) (key : Option Key) → hs ≡ walk_from s n raw
      → Came (by_attributes s n look hs raw key)
  unfolding Came by_attributes
  come-attributes [] raw key q i p = absurd (cc)
  come-attributes (refuses r ∷ hs) raw key q i p = absurd (cc)
  come-attributes (gives h ∷ hs) raw key q i p =
      let y = peel_raw s n raw h hs q in
      let at = (of-step s n raw h y.stands).stands in
      both (λ (l : Left). l.answer ≡ gives i → Comes i) (eqb h.ty attribute_list) _
      (leaves (gives (item n h None)) (state (raw + h.length) None key))
      (come-list (by_attributes s n look hs (raw + h.length)) (raw + h.length)
      (λ k. come-attributes hs (raw + h.length) k y.tail) (list_in s n h) key i)
      (λ u. subst Comes (the-item u) (inl (record {
        file = refl;
        stands = ap (step_at s n) at ∙ y.stands;
        rest = refl;
      }))) p

  come-by : (raw : ℕ) (o : Option Rest) (key : Option Key) → Came (next_by s n look raw o key)
  unfolding next_by
  come-by raw None key = come-attributes (walk_from s n raw) raw key refl
  come-by raw (Some l) key =
      come-entries (by_attributes s n look (walk_from s n raw) raw) raw l.to
      (λ k. come-attributes (walk_from s n raw) raw k refl) (entries_of s n l.to l.from) l.from key refl

  pub comes : (w : State) (i : Item) → (next_of s n look w).answer ≡ gives i → Comes i
  unfolding Came next_of next_in
  comes w i p =
      both (λ (l : Left). l.answer ≡ gives i → Comes i) (lies_in (length s) w.list) _
      (leaves (refuses (refusal BadState n 0)) w) (come-by w.raw w.list w.key i) (λ u. absurd (cc)) p

  -- what is opened does not hang on the place to blame
  anywhere : (wanted : RecordNumber) (miss other : Refusal) (o : Option (List ℕ)) (t : Lent)
      → opened_as wanted miss o ≡ gives t → opened_as wanted other o ≡ gives t
  unfolding opened_as
  anywhere wanted miss other None t e = absurd (refused-given e)
  anywhere wanted miss other (Some b) t e = e

  -- a record that was looked up has the number that was wanted
  numbered : (wanted : RecordNumber) (miss : Refusal) (o : Option (List ℕ)) (t : Lent)
      → opened_as wanted miss o ≡ gives t → t.number ≡ wanted
  unfolding opened_as
  numbered wanted miss None t e = absurd (refused-given e)
  numbered wanted miss (Some b) t e = ap (λ (x : Lent). x.number) (opened_file b wanted t (sym e))

  -- and is found again by it, whatever place is blamed
  pub looked-again : (wanted : RecordNumber) (place other : ℕ) (t : Lent) → lookup_of s n look wanted place ≡ gives t
      → lookup_of s n look t.number other ≡ gives t
  unfolding lookup_of
  looked-again wanted place other t e =
      ap (λ (f : RecordNumber). opened_as f (refusal NoRecord n other) (held_by s n look f))
      (numbered wanted (refusal NoRecord n place) (held_by s n look wanted) t e)
      ∙ anywhere wanted _ _ (held_by s n look wanted) t e

  -- an entry's attribute was found in the record that its lookup gives
  again : (i : Item) (place : ℕ) (x : EntryItem s n look i) (a : Outcome Lent)
      → lookup_of s n look x.by.file x.list.from ≡ a
      → (found_in s n look x.by x.list.from a).answer ≡ gives i.attribute → FoundAgain s n look i place
  unfolding lookup_of found_in
  again i place x (refuses r) e q = absurd (refused-given q)
  again i place x (gives t) e q = record {
    within = t;
    opened = ap (λ (f : RecordNumber). opened_as f (refusal NoRecord n place) (held_by s n look f)) x.file
        ∙ anywhere x.by.file _ _ (held_by s n look x.by.file) t e;
    stands = found-stands t.bytes t.number t.number x.by.ty x.by.instance (refusal NoAttribute n x.list.from)
        i.attribute (sym q);
  }

  own-again : (i : Item) (place : ℕ) → open_of s n ≡ gives (lent s n) → OwnItem s n look i
      → FoundAgain s n look i place
  unfolding lookup_of opened_as held_by open_of
  own-again i place o x =
      let same : eqb n.0 n.0 ≡ true = eq-eqb n.0 n.0 refl in
      record {
        within = lent s n;
        opened = ap (λ (f : RecordNumber). lookup_of s n look f place) x.file
            ∙ rw same (not-second _ _ _ _ o refused-given).1;
        stands = x.stands;
      }

pub items_come : ItemsCome
items_come = comes

pub items_are_found_again : ItemsAreFoundAgain
unfolding sought_of
items_are_found_again s n look w i place o p = by (comes s n look w i p)
  where
    by : OwnItem s n look i ⊎ EntryItem s n look i → FoundAgain s n look i place
    by (inl x) = own-again s n look i place o x
    by (inr x) = again s n look i place x (lookup_of s n look x.by.file x.list.from) refl x.found
