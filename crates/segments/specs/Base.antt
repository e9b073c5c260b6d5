-- RULES 25.1, 25.2: whether a record is in use, and the base record that it belongs to.
use Rattle.std.specs.Prelude.{ℕ, ◌||◌, ◌&&◌, List, Bool, not, eqb}
use Rattle.std.specs.Int.Bits.{bit_and}
use Rattle.fields.specs.Le.{le}
use Rattle.fields.specs.declared.RecordNumber.{RecordNumber}
use Rattle.record.specs.Header.{header_of}
use Rattle.segments.specs.declared.Reference.{Reference}

-- BaseFileRecordSegment (MFT_SEGMENT_REFERENCE): a record's number, and its SequenceNumber
unfoldable pub base_reference_of : List ℕ → Reference
base_reference_of s = record { file = record { 0 = le 6 s 32 }; sequence = le 2 s 38 }

-- all eight bytes of it: a base record has none
unfoldable pub is_zero : Reference → Bool
is_zero r = eqb r.file.0 0 && eqb r.sequence 0

-- FILE_RECORD_SEGMENT_IN_USE of Flags
unfoldable pub is_in_use : List ℕ → Bool
is_in_use s = eqb (bit_and (header_of s).flags 0x0001) 0x0001

unfoldable pub is_base_in_use : List ℕ → Bool
is_base_in_use s = is_in_use s && is_zero (base_reference_of s)

-- RULES 25.3: a sequence number in a reference, and a record's own: 0 means any
unfoldable pub fits : ℕ → ℕ → Bool
fits named has = eqb named 0 || eqb named has

-- a record's reference to its base record means the base record with these bytes and this number
unfoldable pub is_back : List ℕ → RecordNumber → Reference → Bool
is_back s n r = eqb r.file.0 n.0 && (not (is_zero r) && fits r.sequence (header_of s).sequence)
