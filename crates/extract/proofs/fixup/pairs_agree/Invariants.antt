use Rattle.std.proofs.Common.{◌≡◌, true}
use Rattle.extract.specs.Fixup.{pairs_agree}
use Rattle.extract.proofs.fixup.pairs_agree.Given as goal

abbrev pub invariant-loop-i : goal.invariant-loop-i
invariant-loop-i l = pairs_agree l.raw l.i ≡ true
