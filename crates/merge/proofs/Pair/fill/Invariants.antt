use Rattle.std.proofs.Common.{◌≡◌, length}
use Rattle.merge.proofs.Fills.{StandsTo}
use Rattle.merge.proofs.Pair.fill.Given as goal

abbrev pub invariant-loop-step : goal.invariant-loop-step
invariant-loop-step l = record {
  row : l.i ≡ length l.yielded;
  stands : StandsTo l.shape.size l.shape.base l.shape.count l.yielded l.fn.table l.table;
}
