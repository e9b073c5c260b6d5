-- What the room has so far was taken of the input.
use Rattle.std.specs.Prelude.{◌≤◌, length, take}
use Rattle.std.specs.Io.KnownBytes.{Consumes}
use Rattle.mft.proofs.fetch.fill.Given as goal

abbrev pub invariant-loop : goal.invariant-loop
invariant-loop g l = record {
  taken : Consumes (g.R.Read.remaining l.initial.input) (g.R.Read.remaining l.input) (take l.have l.room);
  within : l.have ≤ length l.room;
}
