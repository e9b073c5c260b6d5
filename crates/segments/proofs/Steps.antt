-- What one step of the walks gives to tell: from any place, the hazards of all entries are those that were found and
-- those from where it goes on.
use Rattle.std.proofs.Common.{ℕ, ◌+◌, ◌≡◌, Bool, true, false, List, [], ◌∷◌, ◌++◌, refl, sym, ap, ◌∙◌}
use Rattle.std.proofs.Common.{append_assoc, append-nil}
use Rattle.std.specs.Prelude.{Option}
use Rattle.std.proofs.lemmas.Bool.{eq-eqb, ne_eqb}
use Rattle.fields.specs.Answer.{Outcome, gives, ends, refuses}
use Rattle.fields.specs.Known.{attribute_list}
use Rattle.fields.specs.declared.RecordNumber.{RecordNumber}
use Rattle.fields.specs.declared.Refusal.{Refusal}
use Rattle.list.specs.Entry.{entry_of}
use Rattle.list.specs.declared.Entry.{Entry}
use Rattle.record.specs.Header.{first_attribute}
use Rattle.record.specs.Walk.{step_at, walk_from, attributes_of}
use Rattle.record.specs.Value.{list_in}
use Rattle.record.specs.declared.layout.Attribute.{Attribute}
use Rattle.record.specs.declared.layout.Span.{Span}
use Rattle.record.proofs.Walks as walks
use Rattle.items.specs.State.{list_at, rest_of}
use Rattle.items.specs.Items.{entries_of}
use Rattle.items.proofs.Steps.{first_entry, no_entry, bad_entry}
use Rattle.references.specs.Entries.{before}
use Rattle.segments.specs.Placed.{Placed, at_place, placed, list_placed, placed_by, all_placed}
use Rattle.segments.specs.Whole.{is_whole}
use Rattle.segments.specs.Hazards.{entry_hazards, entries_hazards, listed_hazards}
use Rattle.segments.specs.declared.find.Hazard.{Hazard}

module _ (s : List ℕ) (n : RecordNumber) (look : RecordNumber → Option (List ℕ)) where
  abbrev told : List (Outcome Placed) → List Hazard
  told ps = entries_hazards s n look ps

  -- what stands behind entries that came to their end, and behind a refusal
  pub before_whole : (ps qs : List (Outcome Placed)) → true ≡ is_whole ps → told (before ps qs) ≡ told ps ++ told qs
  unfolding entries_hazards before is_whole
  before_whole [] qs w = refl
  before_whole (gives p ∷ ps) qs w =
      ap (λ (hs : List Hazard). entry_hazards s n look p ++ hs) (before_whole ps qs w)
      ∙ sym (append_assoc (entry_hazards s n look p) (told ps) (told qs))
  before_whole (refuses r ∷ ps) qs w = absurd (cc)

  pub before_cut : (ps qs : List (Outcome Placed)) → false ≡ is_whole ps → told (before ps qs) ≡ told ps
  unfolding entries_hazards before is_whole
  before_cut [] qs w = absurd (cc)
  before_cut (gives p ∷ ps) qs w = ap (λ (hs : List Hazard). entry_hazards s n look p ++ hs) (before_cut ps qs w)
  before_cut (refuses r ∷ ps) qs w = refl

  -- in a list: what is found of all its entries is what was found and what is found of those that are left
  pub record Goes (xs ys : List Hazard) (ps qs : List (Outcome Placed)) : Type 0 where
    pub same : xs ++ told ps ≡ ys ++ told qs
    pub whole : is_whole ps ≡ is_whole qs

  -- it stopped with these hazards, at its end or not
  pub record Stops (xs ys : List Hazard) (ps : List (Outcome Placed)) (t : Bool) : Type 0 where
    pub same : ys ≡ xs ++ told ps
    pub whole : t ≡ is_whole ps

  pub list_opened : (xs : List Hazard) (p : Span) (a : Outcome Span) → gives p ≡ a
      → Goes xs xs (list_placed s n a) (placed p.from (entries_of s n (p.from + p.bytes) p.from))
  unfolding list_placed
  list_opened xs p a e = rw (sym e) (record { same = refl; whole = refl })

  pub list_barred : (xs : List Hazard) (r : Refusal) (a : Outcome Span) → refuses r ≡ a
      → Stops xs xs (list_placed s n a) false
  unfolding list_placed entries_hazards is_whole
  list_barred xs r a e = rw (sym e) (record { same = sym (append-nil xs); whole = refl })

  module _ (xs ys : List Hazard) (ps : List (Outcome Placed)) (to at : ℕ)
      (i : Goes xs ys ps (placed at (entries_of s n to at))) where
    goes : (es : List (Outcome Entry)) → entries_of s n to at ≡ es → Goes xs ys ps (placed at es)
    goes es e = record {
      same = i.same ∙ ap (λ (es : List (Outcome Entry)). ys ++ told (placed at es)) e;
      whole = i.whole ∙ ap (λ (es : List (Outcome Entry)). is_whole (placed at es)) e;
    }

    pub entry_taken : (e : Entry) → gives e ≡ entry_of (rest_of s (list_at at to)) n at
        → Goes xs (ys ++ entry_hazards s n look (at_place at e)) ps
        (placed (at + e.length) (entries_of s n to (at + e.length)))
    unfolding placed entries_hazards is_whole
    entry_taken e g =
        let j = goes _ (first_entry s n (list_at at to) e g) in
        record {
          same = j.same ∙ sym (append_assoc ys (entry_hazards s n look (at_place at e))
              (told (placed (at + e.length) (entries_of s n to (at + e.length)))));
          whole = j.whole;
        }

    pub entries_ended : ends ≡ entry_of (rest_of s (list_at at to)) n at → Stops xs ys ps true
    unfolding placed entries_hazards is_whole
    entries_ended g =
        let j = goes _ (no_entry s n (list_at at to) g) in
        record { same = sym (j.same ∙ append-nil ys); whole = sym j.whole }

    pub entry_refused : (r : Refusal) → refuses r ≡ entry_of (rest_of s (list_at at to)) n at → Stops xs ys ps false
    unfolding placed entries_hazards is_whole
    entry_refused r g =
        let j = goes _ (bad_entry s n (list_at at to) r g) in
        record { same = sym (j.same ∙ append-nil ys); whole = sym j.whole }

  -- over the lists of a record
  pub lists_begun : (xs : List Hazard) (at : ℕ) → at ≡ first_attribute s
      → xs ++ listed_hazards s n look ≡ xs ++ told (placed_by s n (walk_from s n at))
  unfolding listed_hazards all_placed attributes_of
  lists_begun xs at e = rw e refl

  -- x is what is found of the raw walk
  module _ (x ys : List Hazard) (at : ℕ) (i : x ≡ ys ++ told (placed_by s n (walk_from s n at))) where
    walked : (hs : List (Outcome Attribute)) → walk_from s n at ≡ hs → x ≡ ys ++ told (placed_by s n hs)
    walked hs e = i ∙ ap (λ (hs : List (Outcome Attribute)). ys ++ told (placed_by s n hs)) e

    pub walk_ended : ends ≡ step_at s n at → ys ≡ x
    unfolding placed_by entries_hazards
    walk_ended g = sym (walked [] (walks.ended s n at g) ∙ append-nil ys)

    pub walk_refused : (r : Refusal) → refuses r ≡ step_at s n at → ys ≡ x
    unfolding placed_by entries_hazards
    walk_refused r g = sym (walked (refuses r ∷ []) (walks.refused s n at r g) ∙ append-nil ys)

    module _ (h : Attribute) (g : gives h ≡ step_at s n at) where
      pub other_passed : (h.ty ≡ attribute_list → ⊥)
          → x ≡ ys ++ told (placed_by s n (walk_from s n (at + h.length)))
      unfolding placed_by
      other_passed t = walked _ (walks.moved s n at h g) ∙ rw (ne_eqb h.ty attribute_list t) refl

      module _ (t : h.ty ≡ attribute_list) (zs : List Hazard) (whole : Bool)
          (l : Stops ys zs (list_placed s n (list_in s n h)) whole) where
        rest : List (Outcome Placed)
        rest = placed_by s n (walk_from s n (at + h.length))

        opened : x ≡ ys ++ told (before (list_placed s n (list_in s n h)) rest)
        unfolding placed_by rest
        opened = walked _ (walks.moved s n at h g) ∙ rw (eq-eqb h.ty attribute_list t) refl

        pub list_taken : whole ≡ true → x ≡ zs ++ told (placed_by s n (walk_from s n (at + h.length)))
        unfolding rest
        list_taken w =
            opened
            ∙ ap (λ (hs : List Hazard). ys ++ hs) (before_whole _ rest (sym w ∙ l.whole))
            ∙ sym (append_assoc ys (told (list_placed s n (list_in s n h))) (told rest))
            ∙ ap (λ (hs : List Hazard). hs ++ told rest) (sym l.same)

        pub list_stopped : whole ≡ false → zs ≡ x
        list_stopped w =
            l.same
            ∙ ap (λ (hs : List Hazard). ys ++ hs) (sym (before_cut _ rest (sym w ∙ l.whole)))
            ∙ sym opened
