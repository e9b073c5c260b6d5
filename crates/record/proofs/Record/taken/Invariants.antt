-- After so many takes the reader keeps the record, and stands where the walk does.
use Rattle.std.proofs.Common.{◌≡◌}
use Rattle.record.specs.Places.{place_of}
use Rattle.record.proofs.Record.taken.Given as goal

abbrev pub invariant-loop : goal.invariant-loop
invariant-loop l = record {
  within : l.reader.within ≡ l.self;
  place : l.reader.at ≡ place_of l.self.bytes.now l.self.number l.counter;
}
