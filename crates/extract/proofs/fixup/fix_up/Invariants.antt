use Rattle.std.proofs.Common.{◌≡◌, length}
use Rattle.extract.specs.Fixup.{fixed_below}
use Rattle.extract.proofs.fixup.fix_up.Given as goal

abbrev pub invariant-loop-i : goal.invariant-loop-i
invariant-loop-i l = record {
  long : length l.room ≡ length l.raw;
  fixed : l.room ≡ fixed_below l.raw l.i;
}
