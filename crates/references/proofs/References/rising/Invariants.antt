-- The numbers that the loop has left, placed among those that it has placed, are all of them.
use Rattle.std.proofs.Common.{◌≡◌, ◌+◌, length}
use Rattle.std.specs.Iterator.Adapters.{rev_source}
use Rattle.std.specs.Slice.Iter.{iter_rest}
use Rattle.references.specs.Shown.{so_far, shown_rising}
use Rattle.references.specs.Rising.{sorted}
use Rattle.references.proofs.Sorts.{onto}
use Rattle.references.proofs.References.rising.Given as goal

abbrev pub invariant-loop-number : goal.invariant-loop-number
invariant-loop-number l = record {
  same : sorted (so_far l.self) ≡ onto (iter_rest (rev_source l.number-iterator)) (shown_rising l.rising);
  left : length (iter_rest (rev_source l.number-iterator)) + l.rising.count ≡ l.self.count;
}
