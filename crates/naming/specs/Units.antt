-- RULES 26.1: names as the bytes of their UTF-16 units, two for each unit, the low one first.
use Rattle.std.specs.Prelude.{ℕ, List, [], ◌∷◌, flat_map}
use Rattle.std.specs.Int.{w16, from_le_bytes, to_le_bytes}
use Rattle.std.specs.Char.Escape.{encode_utf16}
use Rattle.std.specs.Char.Utf16.{utf16_lossy_chars}
use Rattle.std.specs.Str.{chars}

-- the units that bytes are; an odd last byte is in none
abbrev pub units_in : List ℕ → List ℕ
units_in [] = []
units_in (low ∷ []) = []
units_in (low ∷ high ∷ rest) = from_le_bytes w16 (low ∷ high ∷ []) ∷ units_in rest

-- the characters of a name; a surrogate without its partner is U+FFFD
abbrev pub name_chars : List ℕ → List ℕ
name_chars name = utf16_lossy_chars (units_in name)

abbrev pub unit_bytes : ℕ → List ℕ
unit_bytes u = to_le_bytes w16 u

-- the bytes of the units of a text's characters
abbrev pub units_of : List ℕ → List ℕ
units_of text = flat_map unit_bytes (flat_map encode_utf16 (chars text))
