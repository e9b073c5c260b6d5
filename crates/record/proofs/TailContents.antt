-- Records that are alike in the used part have the same names, values and lists: each ends inside its attribute.
use Rattle.std.proofs.Common.{ℕ, ◌+◌, ◌<◌, ◌≤◌, ◌≡◌, List, take, length-take}
use Rattle.std.proofs.Common.{refl, sym, ap, ◌∙◌, arith}
use Rattle.std.proofs.lemmas.Bool.Decides.{nat_tests}
use Rattle.std.proofs.lemmas.List.{get_or-take, ext_get_or, drop-take}
use Rattle.fields.specs.Answer.{Outcome, gives, refuses, ◌⟫◌}
use Rattle.fields.specs.declared.RecordNumber.{RecordNumber}
use Rattle.record.specs.Header.{used_size}
use Rattle.record.specs.Inside.{Inside}
use Rattle.record.specs.View.{piece_of}
use Rattle.record.specs.Name.{name_in}
use Rattle.record.specs.Value.{resident_at, non_resident_at, full_in, resident_in, runs_in}
use Rattle.record.specs.Value.{value_after, value_in, list_after, list_in}
use Rattle.record.specs.Laws.{UsedAlike, TailsChangeNothing}
use Rattle.record.specs.declared.layout.Attribute.{Attribute}
use Rattle.record.specs.declared.layout.ResidentHeader.{ResidentHeader}
use Rattle.record.specs.declared.layout.NonResidentHeader.{NonResidentHeader}
use Rattle.record.specs.declared.layout.FullHeader.{FullHeader}
use Rattle.record.specs.declared.layout.FullHeader.TheVariants as header
use Rattle.record.proofs.Tails.{le-same}

module _ (s t : List ℕ) (n : RecordNumber) (h : Attribute) (alike : UsedAlike s t) (i : Inside s h) where
  front-same : (k : ℕ) → k ≤ used_size s → take k s ≡ take k t
  front-same k l =
      let m = alike.long in
      ext_get_or 0 (take k s) (take k t) (omega (arith, length-take {A = ℕ}))
      (λ j b.
      let u : j < k = omega (arith, length-take {A = ℕ}) in
      get_or-take k s j 0 u ∙ alike.bytes j (omega arith) ∙ sym (get_or-take k t j 0 u))

  piece-same : (from bytes : ℕ) → from + bytes ≤ h.length → piece_of s h from bytes ≡ piece_of t h from bytes
  unfolding piece_of
  piece-same from bytes l =
      let u = i.used in
      rw (
        sym (drop-take (h.offset + from) bytes s),
        sym (drop-take (h.offset + from) bytes t),
        front-same (h.offset + from + bytes) (omega arith),
      ) refl

  name-same : name_in s n h ≡ name_in t n h
  unfolding name_in
  name-same = grind (arith, nat_tests, piece-same)

  resident-header : 24 ≤ h.length → resident_at s h.offset ≡ resident_at t h.offset
  unfolding resident_at
  resident-header l =
      let u = i.used in
      rw (le-same s t alike 4 (h.offset + 16) (omega arith), le-same s t alike 2 (h.offset + 20) (omega arith)) refl

  non-resident-header : 64 ≤ h.length → non_resident_at s h.offset ≡ non_resident_at t h.offset
  unfolding non_resident_at
  non-resident-header l =
      let u = i.used in
      rw (
        le-same s t alike 8 (h.offset + 16) (omega arith),
        le-same s t alike 8 (h.offset + 24) (omega arith),
        le-same s t alike 2 (h.offset + 32) (omega arith),
        le-same s t alike 8 (h.offset + 40) (omega arith),
        le-same s t alike 8 (h.offset + 48) (omega arith),
        le-same s t alike 8 (h.offset + 56) (omega arith),
      ) refl

  full-same : full_in s n h ≡ full_in t n h
  unfolding full_in
  full-same = grind (arith, nat_tests, resident-header, non-resident-header)

  resident-same : (f : ResidentHeader) → resident_in s n h f ≡ resident_in t n h f
  unfolding resident_in
  resident-same f = grind (arith, nat_tests, piece-same)

  runs-same : (f : NonResidentHeader) → runs_in s n h f ≡ runs_in t n h f
  unfolding runs_in
  runs-same f = grind (arith, nat_tests, piece-same)

  value-after-same : (a : Outcome FullHeader) → a ⟫ value_after s n h ≡ a ⟫ value_after t n h
  unfolding value_after
  value-after-same (gives (header.Resident f)) = rw (resident-same f) refl
  value-after-same (gives (header.NonResident f)) = rw (runs-same f) refl
  value-after-same (refuses r) = refl

  value-same : value_in s n h ≡ value_in t n h
  unfolding value_in
  value-same = value-after-same (full_in s n h) ∙ ap (λ a. a ⟫ value_after t n h) full-same

  list-after-same : (a : Outcome FullHeader) → a ⟫ list_after s n h ≡ a ⟫ list_after t n h
  unfolding list_after
  list-after-same (gives (header.Resident f)) = rw (resident-same f) refl
  list-after-same (gives (header.NonResident f)) = refl
  list-after-same (refuses r) = refl

  list-same : list_in s n h ≡ list_in t n h
  unfolding list_in
  list-same = list-after-same (full_in s n h) ∙ ap (λ a. a ⟫ list_after t n h) full-same

pub tails-change-nothing : TailsChangeNothing
tails-change-nothing s t n h a i =
    record {
      name = name-same s t n h a i;
      value = value-same s t n h a i;
      list = list-same s t n h a i;
    }
