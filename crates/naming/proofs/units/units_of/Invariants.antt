-- What is put, and the units that are left, are those of the text.
use Rattle.std.specs.Prelude.{◌≡◌, ◌++◌, flat_map}
use Rattle.std.specs.Char.Escape.{encode_utf16}
use Rattle.std.specs.Str.{IsUtf8, chars}
use Rattle.std.specs.Str.Iter.{encode_utf16_rest, encode_utf16_pending}
use Rattle.naming.specs.Units.{unit_bytes, units_of}
use Rattle.naming.proofs.units.units_of.Given as goal

abbrev pub invariant-loop-unit : goal.invariant-loop-unit
invariant-loop-unit l =
    IsUtf8 (encode_utf16_rest l.unit-iterator)
    × (l.bytes.items
    ++ flat_map unit_bytes
    (encode_utf16_pending l.unit-iterator ++ flat_map encode_utf16 (chars (encode_utf16_rest l.unit-iterator)))
    ≡ units_of l.name)
