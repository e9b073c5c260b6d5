-- The bytes are what was taken of the input.
use Rattle.std.specs.Io.KnownBytes.{Consumes}
use Rattle.command.proofs.read.read_input.Given as goal

abbrev pub invariant-loop : goal.invariant-loop
invariant-loop g l = Consumes (g.R.Read.remaining l.initial.input) (g.R.Read.remaining l.input) l.bytes.items
