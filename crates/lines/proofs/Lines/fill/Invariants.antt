use Rattle.std.proofs.Common.{length, ◌≡◌}
use Rattle.lines.specs.Rest.{rest}
use Rattle.lines.proofs.Fills.{Filling}
use Rattle.lines.proofs.Lines.fill.Given as goal

abbrev pub invariant-loop-out : goal.invariant-loop-out
invariant-loop-out l = record {
  page : Filling l.fn.out (rest l.fn.parts l.fn.self) l.out l.at (rest l.parts l.self);
  size : length l.parts ≡ length l.fn.parts;
}

abbrev pub decreases-loop-out : goal.decreases-loop-out
decreases-loop-out l = length (rest l.parts l.self)
