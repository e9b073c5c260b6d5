-- What is told from the loop's place on, behind what was told so far, is what is told of the whole record.
use Rattle.std.proofs.Common.{◌≡◌, ◌-◌, ◌*◌, ◌≤◌, length}
use Rattle.record.specs.Walk.{walk_from}
use Rattle.list.specs.Entry.{header_size}
use Rattle.references.specs.Entries.{entries_by}
use Rattle.references.specs.References.{told_by, references_of}
use Rattle.references.specs.Shown.{so_far}
use Rattle.references.proofs.References.take_lists.Given as goal

abbrev pub invariant-loop-attribute : goal.invariant-loop-attribute
invariant-loop-attribute l = record {
  same : references_of l.within.bytes.now l.within.number
      ≡ told_by l.within.number (so_far l.self)
      (entries_by l.within.bytes.now l.within.number (walk_from l.within.bytes.now l.within.number l.at));
  room : header_size * l.self.count ≤ l.at;
}

abbrev pub decreases-loop-attribute : goal.decreases-loop-attribute
decreases-loop-attribute l = length l.within.bytes.now - l.at
