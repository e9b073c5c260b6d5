use Rattle.std.proofs.Common.{◌≡◌}
use Rattle.extract.specs.Told.{tally_below}
use Rattle.extract.proofs.Extract.tally.Given as goal

abbrev pub invariant-loop-i : goal.invariant-loop-i
invariant-loop-i l = l.tally ≡ tally_below l.self l.i
