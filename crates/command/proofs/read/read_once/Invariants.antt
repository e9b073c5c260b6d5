-- A read that fails takes nothing of the input.
use Rattle.std.specs.Io.KnownBytes.{Keeps}
use Rattle.command.proofs.read.read_once.Given as goal

abbrev pub invariant-loop : goal.invariant-loop
invariant-loop g l = Keeps (g.R.Read.remaining l.initial.input) (g.R.Read.remaining l.input)
