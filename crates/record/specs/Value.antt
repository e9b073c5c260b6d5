-- RULES 7, 8: an attribute's full header, its value, and the list that it opens.
use Rattle.std.specs.Prelude.{ℕ, ◌+◌, ◌-◌, List, ltb}
use Rattle.fields.specs.Pick.{pick}
use Rattle.fields.specs.Le.{le}
use Rattle.fields.specs.Answer.{gives, refuses, refusal, ◌⟫◌, Outcome}
use Rattle.fields.specs.declared.RecordNumber.{RecordNumber}
use Rattle.fields.specs.declared.Cause.TheVariants.{HeaderCut, ValueOffset, ValueEnd, RunsOffset, ListNotResident}
use Rattle.record.specs.Attribute.{checked_at}
use Rattle.record.specs.View.{Piece, piece_of, span}
use Rattle.record.specs.declared.layout.Attribute.{Attribute}
use Rattle.record.specs.declared.layout.Span.{Span}
use Rattle.record.specs.declared.layout.ResidentHeader.{ResidentHeader}
use Rattle.record.specs.declared.layout.NonResidentHeader.{NonResidentHeader}
use Rattle.record.specs.declared.layout.FullHeader.{FullHeader}
use Rattle.record.specs.declared.layout.FullHeader.TheVariants as header

-- Form.Resident: ValueLength, ValueOffset
unfoldable pub resident_at : List ℕ → ℕ → ResidentHeader
resident_at s at = record { value_length = le 4 s (at + 16); value_offset = le 2 s (at + 20) }

-- Form.Nonresident: LowestVcn, HighestVcn, MappingPairsOffset, AllocatedLength, FileSize, ValidDataLength
unfoldable pub non_resident_at : List ℕ → ℕ → NonResidentHeader
non_resident_at s at = record {
  lowest = record { 0 = le 8 s (at + 16) };
  highest = record { 0 = le 8 s (at + 24) };
  runs_offset = le 2 s (at + 32);
  allocated = le 8 s (at + 40);
  size = le 8 s (at + 48);
  initialized = le 8 s (at + 56);
}

-- the bytes that a full header takes
abbrev pub resident_size : ℕ
resident_size = 24

abbrev pub non_resident_size : ℕ
non_resident_size = 64

-- a value's own bytes, or its run bytes with the data size
pub data Contents : Type 0 where
  resident : Piece → Contents
  runs : Piece → ℕ → Contents

module _ (s : List ℕ) (n : RecordNumber) where
  -- 7: shorter than the full header of its form
  unfoldable pub full_in : Attribute → Outcome FullHeader
  full_in h =
      pick h.resident
      (pick (ltb h.length resident_size) (refuses (refusal HeaderCut n h.offset))
      (gives (header.Resident (resident_at s h.offset))))
      (pick (ltb h.length non_resident_size) (refuses (refusal HeaderCut n h.offset))
      (gives (header.NonResident (non_resident_at s h.offset))))

  -- 10: a resident value begins past the attribute's end; 11: it ends past it. A sum has no width here
  unfoldable pub resident_in : Attribute → ResidentHeader → Outcome Piece
  resident_in h f =
      pick (ltb h.length f.value_offset) (refuses (refusal ValueOffset n h.offset))
      (pick (ltb h.length (f.value_offset + f.value_length)) (refuses (refusal ValueEnd n h.offset))
      (gives (piece_of s h f.value_offset f.value_length)))

  -- 12: the runs begin past the attribute's end; they end where it does
  unfoldable pub runs_in : Attribute → NonResidentHeader → Outcome Piece
  runs_in h f =
      pick (ltb h.length f.runs_offset) (refuses (refusal RunsOffset n h.offset))
      (gives (piece_of s h f.runs_offset (h.length - f.runs_offset)))

  -- 7, then 10 and 11, or 12
  unfoldable pub value_after : Attribute → FullHeader → Outcome Contents
  value_after h (header.Resident f) = resident_in h f ⟫ λ p. gives (resident p)
  value_after h (header.NonResident f) = runs_in h f ⟫ λ p. gives (runs p f.size)

  unfoldable pub value_in : Attribute → Outcome Contents
  value_in h = full_in h ⟫ value_after h

  -- RULES 8: where the list stands that an attribute opens, by 7, then 10 and 11, or 13 where it isn't resident
  unfoldable pub list_after : Attribute → FullHeader → Outcome Span
  list_after h (header.Resident f) = resident_in h f ⟫ λ p. gives (span p.from f.value_length)
  list_after h (header.NonResident f) = refuses (refusal ListNotResident n h.offset)

  unfoldable pub list_in : Attribute → Outcome Span
  list_in h = full_in h ⟫ list_after h

  -- of the attribute at an offset: 3 to 5 and 28 first
  unfoldable pub full_of : ℕ → Outcome FullHeader
  full_of at = checked_at s n at ⟫ full_in

  unfoldable pub value_of : ℕ → Outcome Contents
  value_of at = checked_at s n at ⟫ value_in
