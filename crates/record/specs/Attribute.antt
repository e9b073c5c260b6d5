-- RULES 4: an attribute's first sixteen bytes (ATTRIBUTE_RECORD_HEADER), and the checks 3, 4, 5 and 28 of whoever
-- reads one.
use Rattle.std.specs.Prelude.{ℕ, ◌+◌, ◌-◌, List, length, get_or, ltb, eqb}
use Rattle.fields.specs.Pick.{pick}
use Rattle.fields.specs.Le.{le}
use Rattle.fields.specs.Answer.{Outcome, gives, refuses, refusal}
use Rattle.fields.specs.Known.{attribute_flags}
use Rattle.fields.specs.declared.RecordNumber.{RecordNumber}
use Rattle.fields.specs.declared.Cause.TheVariants.{AttributeCut, AttributeShort, AttributeLong, AttributeStale}
use Rattle.record.specs.Header.{used_size}
use Rattle.record.specs.declared.layout.Attribute.{Attribute}

-- the bytes that every attribute has
abbrev pub header_size : ℕ
header_size = 16

-- TypeCode, RecordLength, FormCode, NameLength, NameOffset, Flags, Instance
unfoldable pub attribute_at : List ℕ → ℕ → Attribute
attribute_at s at = record {
  offset = at;
  ty = le 4 s at;
  length = le 4 s (at + 4);
  resident = eqb (get_or s (at + 8) 0) 0;
  name_units = get_or s (at + 9) 0;
  name_offset = le 2 s (at + 10);
  flags = attribute_flags (le 2 s (at + 12));
  instance = le 2 s (at + 14);
}

-- 3: under 16 bytes left; 4: a length under 16; 5: longer than what is left; 28: it ends past the used size. Past the
-- record's end nothing is left
unfoldable pub checked_at : List ℕ → RecordNumber → ℕ → Outcome Attribute
checked_at s n at =
    pick (ltb (length s - at) header_size) (refuses (refusal AttributeCut n at))
    (pick (ltb (attribute_at s at).length header_size) (refuses (refusal AttributeShort n at))
    (pick (ltb (length s - at) (attribute_at s at).length) (refuses (refusal AttributeLong n at))
    (pick (ltb (used_size s) (at + (attribute_at s at).length)) (refuses (refusal AttributeStale n at))
    (gives (attribute_at s at)))))
