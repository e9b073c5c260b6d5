-- What is put, and what is left of the escape, are the escape.
use Rattle.std.specs.Prelude.{◌≡◌, ◌++◌}
use Rattle.std.specs.Char.Escape.{escape_unicode}
use Rattle.std.specs.Char.Iter.{escape_rest}
use Rattle.std.specs.Str.{encode_utf8_all}
use Rattle.std.specs.String.{string_bytes}
use Rattle.naming.proofs.escape.put_escape.Given as goal

abbrev pub invariant-loop-glyph : goal.invariant-loop-glyph
invariant-loop-glyph l =
    string_bytes l.line ++ encode_utf8_all (escape_rest l.glyph-iterator)
    ≡ string_bytes l.fn.line ++ encode_utf8_all (escape_unicode l.fn.character)
