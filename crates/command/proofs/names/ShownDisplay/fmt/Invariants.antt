-- As many bytes are written as the loop has passed.
use Rattle.std.specs.Prelude.{take}
use Rattle.std.specs.Fmt.{HasWritten, IsPlainFormatter}
use Rattle.command.specs.Names.{shown_of}
use Rattle.command.proofs.names.ShownDisplay.fmt.Given as goal

abbrev pub invariant-loop-byte : goal.invariant-loop-byte
invariant-loop-byte g l =
    IsPlainFormatter l.initial.f
    → HasWritten g.W.Write.write_str_gives l.initial.f (shown_of (take l.byte-index l.byte-items)) l.f
