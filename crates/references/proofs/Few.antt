-- A record has room for so many entries, and a number is told for one at most.
use Rattle.std.proofs.Common.{ℕ, ◌+◌, ◌-◌, ◌*◌, ◌≤◌, ◌≡◌, List, [], ◌∷◌, ◌++◌, length, eqb, refl}
use Rattle.std.proofs.Common.{length-append, arith}
use Rattle.std.specs.Prelude.{◌||◌}
use Rattle.fields.specs.Answer.{Outcome, gives, refuses}
use Rattle.fields.specs.Known.{attribute_list}
use Rattle.fields.specs.declared.RecordNumber.{RecordNumber}
use Rattle.fields.proofs.Cases.{both}
use Rattle.list.specs.declared.Entry.{Entry}
use Rattle.record.specs.Header.{first_attribute}
use Rattle.record.specs.Inside.{Inside}
use Rattle.record.specs.Walk.{walk_from, attributes_of}
use Rattle.record.specs.Value.{list_in}
use Rattle.record.specs.declared.layout.Attribute.{Attribute}
use Rattle.record.specs.declared.layout.Span.{Span}
use Rattle.record.proofs.Peel.{peel_raw}
use Rattle.items.specs.Items.{entries_of}
use Rattle.items.proofs.Steps.{list_room}
use Rattle.items.proofs.Peel.{peel}
use Rattle.references.specs.Entries.{before, list_entries, entries_by, all_entries}
use Rattle.references.specs.References.{among, one_more, told_by, references_of}
use Rattle.references.specs.Laws.{given, ReferencesAreFew}

one_more_length : (n : RecordNumber) (ms : List RecordNumber) (m : RecordNumber)
    → length (one_more n ms m) ≤ length ms + 1
unfolding one_more
one_more_length n ms m =
    both (λ (xs : List RecordNumber). length xs ≤ length ms + 1) (eqb m.0 n.0 || among ms m) ms (ms ++ m ∷ [])
    (omega arith) (omega (arith, length-append ms (m ∷ [])))

told_length : (n : RecordNumber) (ms : List RecordNumber) (es : List (Outcome Entry))
    → length (told_by n ms es).numbers ≤ length ms + length (given es)
unfolding told_by given
told_length n ms [] = omega arith
told_length n ms (refuses r ∷ es) = omega arith
told_length n ms (gives e ∷ es) =
    let i = told_length n (one_more n ms e.file) es in let j = one_more_length n ms e.file in omega arith

before_length : (xs ys : List (Outcome Entry)) → length (given (before xs ys)) ≤ length (given xs) + length (given ys)
unfolding given before
before_length [] ys = omega arith
before_length (refuses r ∷ xs) ys = omega arith
before_length (gives x ∷ xs) ys = let i = before_length xs ys in omega arith

module _ (s : List ℕ) (n : RecordNumber) where
  entries_length : (to at : ℕ) (es : List (Outcome Entry)) → es ≡ entries_of s n to at
      → 26 * length (given es) ≤ to - at
  unfolding given
  entries_length to at [] e = omega arith
  entries_length to at (refuses r ∷ es) e = omega arith
  entries_length to at (gives x ∷ es) e =
      let p = peel s n to at x es e in let l = p.least in let m = p.most in
      let i = entries_length to (at + x.length) es p.tail in
      omega arith

  list_length : (h : Attribute) → Inside s h → (a : Outcome Span) → a ≡ list_in s n h
      → 26 * length (given (list_entries s n a)) ≤ h.length
  unfolding given list_entries
  list_length h i (refuses r) e = omega arith
  list_length h i (gives p) e =
      let r = list_room s n h p i e in let x = r.short in
      let k = entries_length (p.from + p.bytes) p.from (entries_of s n (p.from + p.bytes) p.from) refl in
      omega arith

  walk_length : (at : ℕ) (hs : List (Outcome Attribute)) → hs ≡ walk_from s n at
      → 26 * length (given (entries_by s n hs)) ≤ length s - at
  unfolding given entries_by
  walk_length at [] e = omega arith
  walk_length at (refuses r ∷ hs) e = omega arith
  walk_length at (gives h ∷ hs) e =
      let p = peel_raw s n at h hs e in let l = p.least in let m = p.most in
      let i = walk_length (at + h.length) hs p.tail in
      let j = list_length h p.inside (list_in s n h) refl in
      let k = before_length (list_entries s n (list_in s n h)) (entries_by s n hs) in
      both (λ (xs : List (Outcome Entry)). 26 * length (given xs) ≤ length s - at) (eqb h.ty attribute_list) _ _
      (omega arith) (omega arith)

pub references_are_few : ReferencesAreFew
unfolding references_of all_entries attributes_of
references_are_few s n =
    let w = walk_length s n (first_attribute s) (walk_from s n (first_attribute s)) refl in
    let t = told_length n [] (entries_by s n (walk_from s n (first_attribute s))) in
    omega arith
