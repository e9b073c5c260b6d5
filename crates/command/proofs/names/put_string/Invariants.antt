-- As many bytes are put as the loop has passed.
use Rattle.std.specs.Prelude.{◌≡◌, ◌++◌, take}
use Rattle.command.specs.Names.{string_of}
use Rattle.command.proofs.names.put_string.Given as goal

abbrev pub invariant-loop-byte : goal.invariant-loop-byte
invariant-loop-byte l = l.text.items ≡ l.fn.text.items ++ string_of (take l.byte-index l.shown)
