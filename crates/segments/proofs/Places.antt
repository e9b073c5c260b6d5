-- The entries with their places are those of the references' definition, and each stands where it is said to.
use Rattle.std.proofs.Common.{ℕ, zero, suc, ◌+◌, ◌-◌, ◌≤◌, ◌≡◌, Bool, true, false, List, [], ◌∷◌, take, drop, eqb}
use Rattle.std.proofs.Common.{length-take, map, refl, ap, ◌∙◌, arith}
use Rattle.std.proofs.lemmas.List.{get_or-take}
use Rattle.fields.specs.Pick.{pick}
use Rattle.fields.specs.Le.{le}
use Rattle.fields.specs.Answer.{Outcome, gives, refuses}
use Rattle.fields.specs.Known.{attribute_list}
use Rattle.fields.specs.declared.RecordNumber.{RecordNumber}
use Rattle.fields.proofs.Cases.{both}
use Rattle.list.specs.Entry.{entry_at, entry_of}
use Rattle.list.specs.declared.Entry.{Entry}
use Rattle.list.proofs.Given as entries
use Rattle.record.specs.Walk.{attributes_of}
use Rattle.record.specs.Value.{list_in}
use Rattle.record.specs.declared.layout.Attribute.{Attribute}
use Rattle.record.specs.declared.layout.Span.{Span}
use Rattle.items.specs.State.{list_at, rest_of}
use Rattle.items.specs.Items.{entries_of}
use Rattle.items.proofs.Peel.{peel}
use Rattle.references.specs.Entries.{before, list_entries, entries_by, all_entries}
use Rattle.segments.specs.Placed.{Placed, placed, list_placed, placed_by, all_placed}
use Rattle.segments.specs.Laws.{Each, unplaced, EntriesArePlaced}

-- a number in the front of what stands behind a place
le_in : (w k : ℕ) (s : List ℕ) (at i : ℕ) → i + w ≤ k → le w (take k (drop at s)) i ≡ le w (drop at s) i
unfolding le
le_in zero k s at i l = refl
le_in (suc w) k s at i l =
    rw (get_or-take k (drop at s) i 0 (omega arith), le_in w k s at (i + 1) (omega arith)) refl

entry_in : (k : ℕ) (s : List ℕ) (at : ℕ) → 26 ≤ k → entry_at (take k (drop at s)) ≡ entry_at (drop at s)
unfolding entry_at
entry_in k s at l =
    rw (
      le_in 4 k s at 0 (omega arith),
      le_in 2 k s at 4 (omega arith),
      get_or-take k (drop at s) 6 0 (omega arith),
      get_or-take k (drop at s) 7 0 (omega arith),
      le_in 8 k s at 8 (omega arith),
      le_in 6 k s at 16 (omega arith),
      le_in 2 k s at 24 (omega arith),
    ) refl

module _ (s : List ℕ) (n : RecordNumber) where
  Stands : Placed → Type 0
  Stands p = p.entry ≡ entry_at (drop p.place s)

  entry_stands : (to at : ℕ) (e : Entry) → entry_of (rest_of s (list_at at to)) n at ≡ gives e
      → e ≡ entry_at (drop at s)
  entry_stands to at e g =
      let k = entries.given (rest_of s (list_at at to)) n at e g in
      let l = k.least in let m = k.most in
      k.is ∙ entry_in (to - at) s at (omega (arith, length-take {A = ℕ}))

  entries_stand : (to at : ℕ) (es : List (Outcome Entry)) → es ≡ entries_of s n to at → Each Stands (placed at es)
  unfolding placed Stands
  entries_stand to at [] e = tt
  entries_stand to at (refuses r ∷ es) e = tt
  entries_stand to at (gives x ∷ es) e =
      let p = peel s n to at x es e in
      (entry_stands to at x p.stands, entries_stand to (at + x.length) es p.tail)

  before_stand : (ps qs : List (Outcome Placed)) → Each Stands ps → Each Stands qs → Each Stands (before ps qs)
  unfolding before
  before_stand [] qs h k = k
  before_stand (gives p ∷ ps) qs h k = (h.0, before_stand ps qs h.1 k)
  before_stand (refuses r ∷ ps) qs h k = tt

  list_stand : (a : Outcome Span) → Each Stands (list_placed s n a)
  unfolding list_placed
  list_stand (gives p) = entries_stand (p.from + p.bytes) p.from (entries_of s n (p.from + p.bytes) p.from) refl
  list_stand (refuses r) = tt

  walk_stand : (hs : List (Outcome Attribute)) → Each Stands (placed_by s n hs)
  unfolding placed_by
  walk_stand [] = tt
  walk_stand (refuses r ∷ hs) = tt
  walk_stand (gives h ∷ hs) =
      let i = walk_stand hs in
      both (λ (ps : List (Outcome Placed)). Each Stands ps) (eqb h.ty attribute_list)
      (before (list_placed s n (list_in s n h)) (placed_by s n hs)) (placed_by s n hs)
      (before_stand (list_placed s n (list_in s n h)) (placed_by s n hs) (list_stand (list_in s n h)) i) i

-- without their places they are the entries; where a refusal stops them, what is behind it doesn't count
before_unplaced : (at : ℕ) (es ys : List (Outcome Entry)) (qs : List (Outcome Placed)) → map unplaced qs ≡ ys
    → map unplaced (before (placed at es) qs) ≡ before es ys
unfolding placed before
before_unplaced at [] ys qs e = e
before_unplaced at (refuses r ∷ es) ys qs e = refl
before_unplaced at (gives x ∷ es) ys qs e =
    ap (λ (zs : List (Outcome Entry)). gives x ∷ zs) (before_unplaced (at + x.length) es ys qs e)

module _ (s : List ℕ) (n : RecordNumber) where
  list_unplaced : (a : Outcome Span) (ys : List (Outcome Entry)) (qs : List (Outcome Placed)) → map unplaced qs ≡ ys
      → map unplaced (before (list_placed s n a) qs) ≡ before (list_entries s n a) ys
  unfolding list_placed list_entries before
  list_unplaced (gives p) ys qs e = before_unplaced p.from (entries_of s n (p.from + p.bytes) p.from) ys qs e
  list_unplaced (refuses r) ys qs e = refl

  choose : (t : Bool) (ps qs : List (Outcome Placed)) (xs ys : List (Outcome Entry)) → map unplaced ps ≡ xs
      → map unplaced qs ≡ ys → map unplaced (pick t ps qs) ≡ pick t xs ys
  choose true ps qs xs ys h k = h
  choose false ps qs xs ys h k = k

  walk_unplaced : (hs : List (Outcome Attribute)) → map unplaced (placed_by s n hs) ≡ entries_by s n hs
  unfolding placed_by entries_by
  walk_unplaced [] = refl
  walk_unplaced (refuses r ∷ hs) = refl
  walk_unplaced (gives h ∷ hs) =
      let i = walk_unplaced hs in
      choose (eqb h.ty attribute_list) _ _ _ _ (list_unplaced (list_in s n h) _ _ i) i

pub entries_are_placed : EntriesArePlaced
unfolding all_placed all_entries Stands
entries_are_placed s n = (walk_unplaced s n (attributes_of s n), walk_stand s n (attributes_of s n))
