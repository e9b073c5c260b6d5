use Rattle.std.proofs.Common.{◌≡◌, length}
use Rattle.merge.proofs.Judges.{Agreed}
use Rattle.merge.proofs.Pair.judge.Given as goal

abbrev pub invariant-loop-step : goal.invariant-loop-step
invariant-loop-step l = record {
  count : l.count ≡ length l.yielded;
  agreed : Agreed l.yielded;
}
