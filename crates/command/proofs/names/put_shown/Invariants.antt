-- As many bytes are put as the loop has passed.
use Rattle.std.specs.Prelude.{◌≡◌, ◌++◌, take}
use Rattle.command.specs.Names.{shown_of}
use Rattle.command.proofs.names.put_shown.Given as goal

abbrev pub invariant-loop-byte : goal.invariant-loop-byte
invariant-loop-byte l = l.text.items ≡ l.fn.text.items ++ shown_of (take l.byte-index l.byte-items)
