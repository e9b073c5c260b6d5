-- RULES 6: the name of an attribute.
use Rattle.std.specs.Prelude.{ℕ, ◌+◌, ◌*◌, ◌||◌, List, leb, ltb, eqb}
use Rattle.fields.specs.Pick.{pick}
use Rattle.fields.specs.Answer.{Outcome, gives, refuses, refusal, ◌⟫◌}
use Rattle.fields.specs.declared.Cause.TheVariants.{NameOffset, NameEnd}
use Rattle.fields.specs.declared.RecordNumber.{RecordNumber}
use Rattle.record.specs.Attribute.{checked_at}
use Rattle.record.specs.View.{Piece, piece_of, empty}
use Rattle.record.specs.declared.layout.Attribute.{Attribute}

-- no offset or no units: empty, whatever the other is; else 8: it begins at or past the attribute's end; 9: it ends
-- past it
unfoldable pub name_in : List ℕ → RecordNumber → Attribute → Outcome Piece
name_in s n h =
    pick (eqb h.name_offset 0 || eqb h.name_units 0) (gives empty)
    (pick (leb h.length h.name_offset) (refuses (refusal NameOffset n h.offset))
    (pick (ltb h.length (h.name_offset + 2 * h.name_units)) (refuses (refusal NameEnd n h.offset))
    (gives (piece_of s h h.name_offset (2 * h.name_units)))))

-- of the attribute at an offset: 3 to 5 and 28 first
unfoldable pub name_of : List ℕ → RecordNumber → ℕ → Outcome Piece
name_of s n at = checked_at s n at ⟫ name_in s n
