-- RULES 3: the record's own fields (FILE_RECORD_SEGMENT_HEADER).
use Rattle.std.specs.Prelude.{ℕ, List, length, ltb}
use Rattle.std.specs.Int.Bits.{bit_and}
use Rattle.fields.specs.Pick.{pick}
use Rattle.fields.specs.Le.{le}
use Rattle.record.specs.declared.layout.RecordHeader.{RecordHeader}

-- SequenceNumber, links, FirstAttributeOffset, Flags (kept in the bits of in-use and directory), used and allocated
-- size
unfoldable pub header_of : List ℕ → RecordHeader
header_of s = record {
  sequence = le 2 s 16;
  links = le 2 s 18;
  first_attribute = le 2 s 20;
  flags = bit_and (le 2 s 22) 0x0003;
  used = le 4 s 24;
  allocated = le 4 s 28;
}

-- where the raw walk starts (RULES 5); 0 for bytes that end before that field
unfoldable pub first_attribute : List ℕ → ℕ
first_attribute s = pick (ltb (length s) 22) 0 (le 2 s 20)

-- where the used part ends (RULES 3.4, 4.5); 0 for bytes that end before that field
unfoldable pub used_size : List ℕ → ℕ
used_size s = pick (ltb (length s) 28) 0 (le 4 s 24)
