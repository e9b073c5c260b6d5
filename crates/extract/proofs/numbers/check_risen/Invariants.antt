use Rattle.std.proofs.Common.{◌≡◌, ◌≤◌}
use Rattle.std.specs.Prelude.{None}
use Rattle.extract.specs.Numbers.{fallen_below}
use Rattle.extract.proofs.numbers.check_risen.Given as goal

abbrev pub invariant-loop-i : goal.invariant-loop-i
invariant-loop-i l = record { some : 1 ≤ l.i; none : fallen_below l.numbers l.i ≡ None }
