-- The names that are to come stay the same, and each turn takes an item.
use Rattle.std.proofs.Common.{◌≡◌, length}
use Rattle.items.specs.Rest as items
use Rattle.filename.specs.Rest.{rest}
use Rattle.filename.proofs.iterate.NamesIterator.next.Given as goal

abbrev pub invariant-loop-answer : goal.invariant-loop-answer
invariant-loop-answer l = (rest l.self ≡ rest l.initial.self) × (l.self.file ≡ l.initial.self.file)

abbrev pub decreases-loop-answer : goal.decreases-loop-answer
decreases-loop-answer l = length (items.rest l.self.items)
