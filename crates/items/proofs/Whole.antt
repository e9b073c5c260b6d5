-- The items of a walk's calls are those of its raw attributes, with each list replaced by what its entries give.
use Rattle.std.proofs.Common.{ℕ, ◌+◌, ◌≤◌, ◌≡◌, Bool, true, false, List, [], ◌∷◌, length, eqb, refl, sym, ap, ◌∙◌}
use Rattle.std.proofs.Common.{arith}
use Rattle.std.proofs.lemmas.Bool.Decides.{nat_tests}
use Rattle.std.specs.Prelude.{Option, Some, None}
use Rattle.fields.specs.Pick.{pick}
use Rattle.fields.specs.Answer.{Outcome, gives, refuses}
use Rattle.fields.specs.Known.{known_type, attribute_list}
use Rattle.fields.specs.declared.RecordNumber.{RecordNumber}
use Rattle.list.specs.declared.Entry.{Entry}
use Rattle.record.specs.Header.{first_attribute}
use Rattle.record.specs.Inside.{Inside}
use Rattle.record.specs.Value.{list_in}
use Rattle.record.specs.Walk.{walk_from, attributes_of}
use Rattle.record.specs.declared.layout.Attribute.{Attribute}
use Rattle.record.specs.declared.layout.Span.{Span}
use Rattle.record.proofs.Peel.{peel_raw}
use Rattle.items.specs.State.{list_at, state, fresh_of, lies_in}
use Rattle.items.specs.Key.{name_in, key_of, passed_over}
use Rattle.items.specs.Items.{Left, leaves, item, entries_of, sought_of, item_by, by_entries}
use Rattle.items.specs.Items.{by_list}
use Rattle.items.specs.Items.{by_attributes, next_by, next_in, next_of}
use Rattle.items.specs.Walked.{report_of}
use Rattle.items.specs.Calls.{answered, items_from, items_of}
use Rattle.items.specs.Laws.{found_gives, entries_give, list_gives, attributes_give, ItemsOfAttributes}
use Rattle.items.specs.Laws.{KeysOutliveLists}
use Rattle.items.specs.declared.key.Key.{Key}
use Rattle.items.specs.declared.walk.State.{State}
use Rattle.items.specs.declared.walk.Item.{Item}
use Rattle.items.proofs.Calls.{then_rest}
use Rattle.items.proofs.Peel.{peel}
use Rattle.items.proofs.Steps.{list_room, no_entry}

lies-so : (m from to : ℕ) → from ≤ to → to ≤ m → lies_in m (Some (list_at from to)) ≡ true
unfolding lies_in
lies-so m from to l z = grind (arith, nat_tests)

module _ (s : List ℕ) (n : RecordNumber) (look : RecordNumber → Option (List ℕ)) where
  -- what a call gives, and then what the walk gives from where it left it
  went : Left → List (Outcome Item)
  went l = answered l.answer (items_from s n look l.left)

  went-on : (w : State) → went (next_of s n look w) ≡ items_from s n look w
  unfolding went report_of
  went-on w = then_rest s n look w (report_of (next_of s n look w)) refl (next_of s n look w).answer refl

  no-list : (raw : ℕ) (key : Option Key)
      → next_of s n look (state raw None key) ≡ by_attributes s n look (walk_from s n raw) raw key
  unfolding next_of next_in next_by lies_in
  no-list raw key = refl

  open-list : (raw from to : ℕ) (key : Option Key) → from ≤ to → to ≤ length s
      → next_of s n look (state raw (Some (list_at from to)) key)
      ≡ by_entries s n look (by_attributes s n look (walk_from s n raw) raw) raw to (entries_of s n to from) from key
  unfolding next_of next_in next_by
  open-list raw from to key l z = rw (lies-so (length s) from to l z) refl

  -- a choice between two calls, and between what they give
  same : (t : Bool) (a b : Left) (x y : List (Outcome Item)) → went a ≡ x → went b ≡ y → went (pick t a b) ≡ pick t x y
  same true a b x y p q = p
  same false a b x y p q = q

  found : (raw from to : ℕ) (e : Entry) (on : Option Key → List (Outcome Item))
      → ((key : Option Key) → items_from s n look (state raw (Some (list_at (from + e.length) to)) key) ≡ on key)
      → (a : Outcome Attribute) → went (item_by raw from to e
      (key_of e (name_in s (list_at from to) e)) a) ≡ found_gives s n look e (list_at from to) on a
  unfolding went answered item_by found_gives
  found raw from to e on step (refuses r) = refl
  found raw from to e on step (gives h) =
      same h.resident
      (leaves (gives (item e.file h None)) (state raw (Some (list_at (from + e.length) to)) None))
      (leaves (gives (item e.file h (Some (list_at from to))))
      (state raw (Some (list_at (from + e.length) to)) (Some (key_of e (name_in s (list_at from to) e))))) _ _
      (ap (λ (xs : List (Outcome Item)). gives (item e.file h None) ∷ xs) (step None))
      (ap (λ (xs : List (Outcome Item)). gives (item e.file h (Some (list_at from to))) ∷ xs)
      (step (Some (key_of e (name_in s (list_at from to) e)))))

  entries : (hs : List (Outcome Attribute)) (raw to : ℕ) → to ≤ length s → hs ≡ walk_from s n raw
      → ((key : Option Key) → went (by_attributes s n look hs raw key) ≡ attributes_give s n look hs key)
      → (es : List (Outcome Entry)) (from : ℕ) (key : Option Key) → from ≤ to → es ≡ entries_of s n to from
      → went (by_entries s n look (by_attributes s n look hs raw) raw to es from key)
      ≡ entries_give s n look (attributes_give s n look hs) to es from key
  unfolding went answered by_entries entries_give
  entries hs raw to z q ih [] from key l p = ih key
  entries hs raw to z q ih (refuses r ∷ es) from key l p = refl
  entries hs raw to z q ih (gives e ∷ es) from key l p =
      let y = peel s n to from e es p in let a = y.least in let b = y.most in
      let on = entries_give s n look (attributes_give s n look hs) to es (from + e.length) in
      let rest = λ (k : Option Key). entries hs raw to z q ih es (from + e.length) k b y.tail in
      let step : (k : Option Key) → items_from s n look (state raw (Some (list_at (from + e.length) to)) k) ≡ on k =
      λ k. sym (went-on (state raw (Some (list_at (from + e.length) to)) k))
      ∙ ap went (open-list raw (from + e.length) to k b z
      ∙ ap (λ (xs : List (Outcome Attribute)). by_entries s n look (by_attributes s n look xs raw) raw to
      (entries_of s n to (from + e.length)) (from + e.length) k) (sym q)
      ∙ ap (λ (xs : List (Outcome Entry)). by_entries s n look (by_attributes s n look hs raw) raw to xs
      (from + e.length) k) (sym y.tail))
      ∙ rest k in
      same (known_type e.ty) _ _ _ _
      (same (passed_over n key e (name_in s (list_at from to) e)) _ _ _ _ (rest key)
      (found raw from to e on step (sought_of s n look e from).answer))
      refl

  listed : (at : ℕ) (hs : List (Outcome Attribute)) (h : Attribute) → Inside s h → hs ≡ walk_from s n at
      → ((k : Option Key) → went (by_attributes s n look hs at k) ≡ attributes_give s n look hs k)
      → (a : Outcome Span) → a ≡ list_in s n h → (k : Option Key)
      → went (by_list s n look (by_attributes s n look hs at) at a k)
      ≡ list_gives s n look (attributes_give s n look hs) a k
  unfolding went answered by_list list_gives
  listed at hs h i t rest (refuses r) g k = refl
  listed at hs h i t rest (gives p) g k =
      let r = list_room s n h p i g in
      entries hs at (p.from + p.bytes) r.most t rest (entries_of s n (p.from + p.bytes) p.from) p.from k
      (omega arith) refl

  attributes : (hs : List (Outcome Attribute)) (raw : ℕ) (key : Option Key) → hs ≡ walk_from s n raw
      → went (by_attributes s n look hs raw key) ≡ attributes_give s n look hs key
  unfolding went answered by_attributes attributes_give by_list list_gives
  attributes [] raw key q = refl
  attributes (refuses r ∷ hs) raw key q = refl
  attributes (gives h ∷ hs) raw key q =
      let p = peel_raw s n raw h hs q in
      let rest = λ (k : Option Key). attributes hs (raw + h.length) k p.tail in
      let step : items_from s n look (state (raw + h.length) None key) ≡ attributes_give s n look hs key =
      sym (went-on (state (raw + h.length) None key))
      ∙ ap went (no-list (raw + h.length) key
      ∙ ap (λ (xs : List (Outcome Attribute)). by_attributes s n look xs (raw + h.length) key) (sym p.tail))
      ∙ rest key in
      same (eqb h.ty attribute_list) _ _ _ _
      (listed (raw + h.length) hs h p.inside p.tail rest (list_in s n h) refl key)
      (ap (λ (xs : List (Outcome Item)). gives (item n h None) ∷ xs) step)

pub items_of_attributes : ItemsOfAttributes
unfolding items_of fresh_of attributes_of
items_of_attributes s n look =
    sym (went-on s n look (state (first_attribute s) None None))
    ∙ ap (went s n look) (no-list s n look (first_attribute s) None)
    ∙ attributes s n look (walk_from s n (first_attribute s)) (first_attribute s) None refl

pub keys_outlive_lists : KeysOutliveLists
unfolding by_entries
keys_outlive_lists s n look raw l key i e =
    open-list s n look raw l.from l.to key i.order i.most
    ∙ ap (λ (es : List (Outcome Entry)). by_entries s n look (by_attributes s n look (walk_from s n raw) raw) raw l.to
    es l.from key) (no_entry s n l (sym e))
    ∙ sym (no-list s n look raw key)
