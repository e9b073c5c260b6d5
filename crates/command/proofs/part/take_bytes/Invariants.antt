-- The bytes are what was taken of the input, and no more than are wanted.
use Rattle.std.specs.Prelude.{length}
use Rattle.std.specs.Io.KnownBytes.{Consumes}
use Rattle.command.proofs.Taken.{IsWithin}
use Rattle.command.proofs.part.take_bytes.Given as goal

abbrev pub invariant-loop : goal.invariant-loop
invariant-loop g l = record {
  taken : Consumes (g.R.Read.remaining l.initial.input) (g.R.Read.remaining l.input) l.bytes.items;
  within : IsWithin l.most (length l.bytes.items);
}
