-- What is no longer left was passed over.
use Rattle.std.specs.Prelude.{◌-◌, ◌≤◌}
use Rattle.command.specs.Passed.{Passes}
use Rattle.command.proofs.part.pass_over.Given as goal

abbrev pub invariant-loop : goal.invariant-loop
invariant-loop g l = record {
  passed : Passes (l.count - l.left) (g.R.Read.remaining l.initial.input) (g.R.Read.remaining l.input);
  rest : l.left ≤ l.count;
}
