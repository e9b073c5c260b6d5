-- The reach of the rows so far.
use Rattle.std.specs.Prelude.{◌≡◌}
use Rattle.table.specs.Reach.{rows_reach}
use Rattle.table.proofs.front.rows_reach.Given as goal

abbrev pub invariant-loop-i : goal.invariant-loop-i
invariant-loop-i l = l.reach ≡ rows_reach l.t l.h l.i
