-- A name, a value, the runs and a list that a call tells of lie inside the record: each ends inside its attribute,
-- which does.
use Rattle.std.proofs.Common.{ℕ, ◌+◌, ◌≤◌, ◌≡◌, List, length, drop, refl, subst, length-drop, arith}
use Rattle.std.proofs.lemmas.List.{length-take-le}
use Rattle.std.proofs.lemmas.Grind.{common_steps}
use Rattle.std.proofs.lemmas.Bool.Decides.{nat_tests}
use Rattle.fields.specs.Answer.{gives}
use Rattle.fields.specs.declared.RecordNumber.{RecordNumber}
use Rattle.fields.proofs.Answers.{refused-given, the-given, back}
use Rattle.record.specs.Attribute.{checked_at}
use Rattle.record.specs.Inside.{Inside}
use Rattle.record.proofs.Given.{of-checked, inside}
use Rattle.record.specs.View.{Piece, piece_of, empty}
use Rattle.record.specs.Name.{name_in, name_of}
use Rattle.record.specs.Value.{Contents, resident, runs, full_in, resident_in, runs_in, value_after, value_in}
use Rattle.record.specs.Value.{value_of, list_after, list_in}
use Rattle.record.specs.Laws.{Lies, told_of, ListLies, NamesLie, ValuesLie, ListsLie}
use Rattle.record.specs.declared.layout.Attribute.{Attribute}
use Rattle.record.specs.declared.layout.ResidentHeader.{ResidentHeader}
use Rattle.record.specs.declared.layout.NonResidentHeader.{NonResidentHeader}
use Rattle.record.specs.declared.layout.FullHeader.{FullHeader}
use Rattle.record.specs.declared.layout.FullHeader.TheVariants as header
use Rattle.record.specs.declared.layout.Span.{Span}

module _ (s : List ℕ) (n : RecordNumber) (h : Attribute) where
  list-after : (f : FullHeader) (p : Span) → list_after s n h f ≡ gives p → h.offset + h.length ≤ length s
      → (h.offset ≤ p.from) × (p.from + p.bytes ≤ h.offset + h.length)
  unfolding list_after resident_in piece_of
  list-after (header.Resident f) p e i = (grind (arith, nat_tests), grind (arith, nat_tests))
  list-after (header.NonResident f) p e i = absurd (refused-given e)

  list-ends : (p : Span) → list_in s n h ≡ gives p → h.offset + h.length ≤ length s
      → (h.offset ≤ p.from) × (p.from + p.bytes ≤ h.offset + h.length)
  unfolding list_in
  list-ends p e i = let t = back (full_in s n h) (list_after s n h) p e in list-after t.first p t.next i

  pub list-lies : Inside s h → (p : Span) → list_in s n h ≡ gives p → ListLies s n h p
  list-lies i p e =
      let t = list-ends p e i.most in
      let m = i.most in
      let u = i.used in
      let y = t.0 in
      let z = t.1 in
      record { most = omega arith; used = omega arith; short = omega arith }

-- some bytes of an attribute inside the record lie inside it
piece-lies : (s : List ℕ) (h : Attribute) (from bytes : ℕ) → Inside s h → from + bytes ≤ h.length
    → Lies s (piece_of s h from bytes)
unfolding piece_of
piece-lies s h from bytes i l =
    let m = i.most in
    let u = i.used in
    let k : bytes ≤ length (drop (h.offset + from) s) = omega (arith, length-drop (h.offset + from) s) in
    let e = length-take-le bytes (drop (h.offset + from) s) k in
    record { bytes = rw e refl; most = rw e (omega arith); used = rw e (omega arith) }

empty-lies : (s : List ℕ) → Lies s empty
empty-lies s = record { bytes = grind (arith, common_steps); most = omega arith; used = omega arith }

module _ (s : List ℕ) (n : RecordNumber) (h : Attribute) (i : Inside s h) where
  name-lies : (p : Piece) → name_in s n h ≡ gives p → Lies s p
  unfolding name_in
  name-lies p e =
      grind (arith, nat_tests, piece-lies, empty-lies)

  resident-lies : (f : ResidentHeader) (p : Piece) → resident_in s n h f ≡ gives p → Lies s p
  unfolding resident_in
  resident-lies f p e = grind (arith, nat_tests, piece-lies)

  runs-lie : (f : NonResidentHeader) (p : Piece) → runs_in s n h f ≡ gives p → Lies s p
  unfolding runs_in
  runs-lie f p e = grind (arith, nat_tests, piece-lies)

  valued-after : (f : FullHeader) (v : Contents) → value_after s n h f ≡ gives v → Lies s (told_of v)
  unfolding value_after
  valued-after (header.Resident f) v e =
      let t = back (resident_in s n h f) (λ p. gives (resident p)) v e in
      let k = resident-lies f t.first t.gave in
      subst (λ (w : Contents). Lies s (told_of w)) (the-given t.next) k
  valued-after (header.NonResident f) v e =
      let t = back (runs_in s n h f) (λ p. gives (runs p f.size)) v e in
      let k = runs-lie f t.first t.gave in
      subst (λ (w : Contents). Lies s (told_of w)) (the-given t.next) k

  value-lies : (v : Contents) → value_in s n h ≡ gives v → Lies s (told_of v)
  unfolding value_in
  value-lies v e = let t = back (full_in s n h) (value_after s n h) v e in valued-after t.first v t.next

module _ (s : List ℕ) (n : RecordNumber) (at : ℕ) where
  name-of-lies : (p : Piece) → name_of s n at ≡ gives p → Lies s p
  unfolding name_of
  name-of-lies p e =
      let t = back (checked_at s n at) (name_in s n) p e in
      name-lies s n t.first (inside (of-checked s n at t.first t.gave)) p t.next

  value-of-lies : (v : Contents) → value_of s n at ≡ gives v → Lies s (told_of v)
  unfolding value_of
  value-of-lies v e =
      let t = back (checked_at s n at) (value_in s n) v e in
      value-lies s n t.first (inside (of-checked s n at t.first t.gave)) v t.next

pub names-lie : NamesLie
names-lie s n = (λ h i p e. name-lies s n h i p e, λ at p e. name-of-lies s n at p e)

pub values-lie : ValuesLie
values-lie s n = (λ h i v e. value-lies s n h i v e, λ at v e. value-of-lies s n at v e)

pub lists-lie : ListsLie
lists-lie s n h i p e = list-lies s n h i p e
