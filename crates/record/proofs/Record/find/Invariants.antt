-- What the search finds in what the walk has left is what it finds in the whole, less what it has read.
use Rattle.std.proofs.Common.{◌≡◌, ◌+◌, length}
use Rattle.record.specs.Walk.{attributes_of}
use Rattle.record.specs.Rest.{rest}
use Rattle.record.specs.Search.{find_in}
use Rattle.record.proofs.Record.find.Given as goal

abbrev pub invariant-search : goal.invariant-search
invariant-search l = record {
  answer : (find_in l.self.number l.ty l.instance l.miss (attributes_of l.self.bytes.now l.self.number)).answer
      ≡ (find_in l.self.number l.ty l.instance l.miss (rest l.answer-iterator)).answer;
  read : length (find_in l.self.number l.ty l.instance l.miss
      (attributes_of l.self.bytes.now l.self.number)).read
      ≡ l.reads + length (find_in l.self.number l.ty l.instance l.miss (rest l.answer-iterator)).read;
}
