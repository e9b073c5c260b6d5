-- What one step of the walks gives to tell: from any place, what is told of all is what is told from where it goes on.
use Rattle.std.proofs.Common.{ℕ, ◌+◌, ◌≡◌, List, [], ◌∷◌, take, refl, sym, ap, ◌∙◌}
use Rattle.std.proofs.lemmas.Bool.{eq-eqb, ne_eqb}
use Rattle.fields.specs.Pick.{pick}
use Rattle.fields.specs.Answer.{Outcome, gives, ends, refuses}
use Rattle.fields.specs.Known.{attribute_list}
use Rattle.fields.specs.declared.RecordNumber.{RecordNumber}
use Rattle.fields.specs.declared.Refusal.{Refusal}
use Rattle.fields.proofs.Answers.{refused-given}
use Rattle.list.specs.Entry.{entry_of}
use Rattle.list.specs.declared.Entry.{Entry}
use Rattle.record.specs.Header.{first_attribute}
use Rattle.record.specs.Walk.{step_at, walk_from, attributes_of}
use Rattle.record.specs.Value.{list_in}
use Rattle.record.specs.declared.layout.Attribute.{Attribute}
use Rattle.record.specs.declared.layout.Span.{Span}
use Rattle.record.proofs.Walks as walks
use Rattle.items.specs.State.{list_at, rest_of}
use Rattle.items.specs.Items.{entries_of}
use Rattle.items.proofs.Steps.{first_entry, no_entry, bad_entry}
use Rattle.references.specs.Entries.{before, list_entries, entries_by, all_entries}
use Rattle.references.specs.References.{Told, tells, one_more, told_by, references_of}

module _ (n : RecordNumber) where
  -- what others tell behind entries that came to their end, and behind a refusal
  before_ended : (ms ns : List RecordNumber) (xs ys : List (Outcome Entry)) → tells ns (gives tt) ≡ told_by n ms xs
      → told_by n ms (before xs ys) ≡ told_by n ns ys
  unfolding told_by before
  before_ended ms ns [] ys e = ap (λ (t : Told). told_by n t.numbers ys) (sym e)
  before_ended ms ns (gives x ∷ xs) ys e = before_ended (one_more n ms x.file) ns xs ys e
  before_ended ms ns (refuses r ∷ xs) ys e = absurd (refused-given (sym (ap (λ (t : Told). t.answer) e)))

  before_refused : (ms ns : List RecordNumber) (r : Refusal) (xs ys : List (Outcome Entry))
      → tells ns (refuses r) ≡ told_by n ms xs → tells ns (refuses r) ≡ told_by n ms (before xs ys)
  unfolding told_by before
  before_refused ms ns r [] ys e = absurd (refused-given (ap (λ (t : Told). t.answer) e))
  before_refused ms ns r (gives x ∷ xs) ys e = before_refused (one_more n ms x.file) ns r xs ys e
  before_refused ms ns r (refuses q ∷ xs) ys e = e

-- where none was told yet
pub told_begun : (s : List ℕ) (n : RecordNumber) (at : ℕ) (ms : List RecordNumber) (k : ℕ) → k ≡ 0
    → at ≡ first_attribute s → references_of s n ≡ told_by n (take k ms) (entries_by s n (walk_from s n at))
unfolding references_of all_entries attributes_of
told_begun s n at ms k z e = rw (z, e) refl

module _ (s : List ℕ) (n : RecordNumber) (ms : List RecordNumber) where
  -- the list that an attribute opens, or why it opens none
  pub list_opened : (p : Span) (a : Outcome Span) → gives p ≡ a
      → told_by n ms (list_entries s n a) ≡ told_by n ms (entries_of s n (p.from + p.bytes) p.from)
  unfolding list_entries
  list_opened p a e = ap (λ (b : Outcome Span). told_by n ms (list_entries s n b)) (sym e)

  pub list_barred : (r : Refusal) (a : Outcome Span) → refuses r ≡ a
      → tells ms (refuses r) ≡ told_by n ms (list_entries s n a)
  unfolding list_entries told_by
  list_barred r a e = ap (λ (b : Outcome Span). told_by n ms (list_entries s n b)) e

module _ (s : List ℕ) (n : RecordNumber) {x : Told} (ms : List RecordNumber) where
  -- x is what is told of a list
  module _ (to at : ℕ) (i : x ≡ told_by n ms (entries_of s n to at)) where
    pub entry_taken : (e : Entry) → gives e ≡ entry_of (rest_of s (list_at at to)) n at
        → x ≡ told_by n (one_more n ms e.file) (entries_of s n to (at + e.length))
    unfolding told_by
    entry_taken e g = i ∙ ap (told_by n ms) (first_entry s n (list_at at to) e g)

    pub entries_ended : ends ≡ entry_of (rest_of s (list_at at to)) n at → tells ms (gives tt) ≡ x
    unfolding told_by
    entries_ended g = sym (i ∙ ap (told_by n ms) (no_entry s n (list_at at to) g))

    pub entry_refused : (r : Refusal) → refuses r ≡ entry_of (rest_of s (list_at at to)) n at
        → tells ms (refuses r) ≡ x
    unfolding told_by
    entry_refused r g = sym (i ∙ ap (told_by n ms) (bad_entry s n (list_at at to) r g))

  -- x is what is told of the raw walk
  module _ (at : ℕ) (i : x ≡ told_by n ms (entries_by s n (walk_from s n at))) where
    walked : (hs : List (Outcome Attribute)) → walk_from s n at ≡ hs → x ≡ told_by n ms (entries_by s n hs)
    walked hs e = i ∙ ap (λ (ys : List (Outcome Attribute)). told_by n ms (entries_by s n ys)) e

    pub walk_ended : ends ≡ step_at s n at → tells ms (gives tt) ≡ x
    unfolding told_by entries_by
    walk_ended g = sym (walked [] (walks.ended s n at g))

    pub walk_refused : (r : Refusal) → refuses r ≡ step_at s n at → tells ms (refuses r) ≡ x
    unfolding told_by entries_by
    walk_refused r g = sym (walked (refuses r ∷ []) (walks.refused s n at r g))

    module _ (h : Attribute) (g : gives h ≡ step_at s n at) where
      pub other_passed : (h.ty ≡ attribute_list → ⊥) → x ≡ told_by n ms (entries_by s n (walk_from s n (at + h.length)))
      unfolding entries_by
      other_passed t = walked _ (walks.moved s n at h g) ∙ rw (ne_eqb h.ty attribute_list t) refl

      module _ (t : h.ty ≡ attribute_list) (ns : List RecordNumber) where
        pub list_taken : tells ns (gives tt) ≡ told_by n ms (list_entries s n (list_in s n h))
            → x ≡ told_by n ns (entries_by s n (walk_from s n (at + h.length)))
        unfolding entries_by
        list_taken e =
            walked _ (walks.moved s n at h g)
            ∙ rw (eq-eqb h.ty attribute_list t) (before_ended n ms ns _ _ e)

        pub list_refused : (r : Refusal) → tells ns (refuses r) ≡ told_by n ms (list_entries s n (list_in s n h))
            → tells ns (refuses r) ≡ x
        unfolding entries_by
        list_refused r e =
            before_refused n ms ns r _ (entries_by s n (walk_from s n (at + h.length))) e
            ∙ sym (walked _ (walks.moved s n at h g)
            ∙ ap (λ t. told_by n ms (pick t (before (list_entries s n (list_in s n h))
            (entries_by s n (walk_from s n (at + h.length)))) (entries_by s n (walk_from s n (at + h.length)))))
            (eq-eqb h.ty attribute_list t))
