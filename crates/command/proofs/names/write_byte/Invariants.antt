-- What is written, and what is left of the escape, are the escape, and what is left is ASCII.
use Rattle.std.specs.Prelude.{◌<◌, ◌≡◌, ◌++◌, All}
use Rattle.std.specs.Char.Escape.{escape_ascii}
use Rattle.std.specs.Char.Iter.{escape_byte_rest}
use Rattle.std.specs.Fmt.{HasWritten, IsPlainFormatter}
use Rattle.command.proofs.names.write_byte.Given as goal

abbrev pub invariant-loop-glyph : goal.invariant-loop-glyph
invariant-loop-glyph g l = record {
  split : l.yielded ++ escape_byte_rest l.glyph-iterator ≡ escape_ascii l.byte;
  ascii : All (λ b. b < 128) (escape_byte_rest l.glyph-iterator);
  text : IsPlainFormatter l.initial.f → HasWritten g.W.Write.write_str_gives l.initial.f l.yielded l.f;
}
