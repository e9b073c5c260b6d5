-- What is put, and what is left of the escape, are the escape.
use Rattle.std.specs.Prelude.{◌≡◌, ◌++◌}
use Rattle.std.specs.Char.Escape.{escape_ascii}
use Rattle.std.specs.Char.Iter.{escape_byte_rest}
use Rattle.command.proofs.names.put_byte.Given as goal

abbrev pub invariant-loop-glyph : goal.invariant-loop-glyph
invariant-loop-glyph l =
    l.text.items ++ escape_byte_rest l.glyph-iterator ≡ l.fn.text.items ++ escape_ascii l.byte
