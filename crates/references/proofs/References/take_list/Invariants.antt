-- What is told from the loop's place on, behind what was told so far, is what is told of the whole list.
use Rattle.std.proofs.Common.{◌≡◌, ◌-◌, ◌*◌, ◌≤◌}
use Rattle.list.specs.Entry.{header_size}
use Rattle.record.specs.Value.{list_in}
use Rattle.items.specs.Items.{entries_of}
use Rattle.references.specs.Entries.{list_entries}
use Rattle.references.specs.References.{told_by}
use Rattle.references.specs.Shown.{so_far}
use Rattle.references.proofs.References.take_list.Given as goal

abbrev pub invariant-loop-entry : goal.invariant-loop-entry
invariant-loop-entry l = record {
  same : told_by l.within.number (so_far l.fn.self) (list_entries l.within.bytes.now l.within.number
      (list_in l.within.bytes.now l.within.number l.holder.attribute))
      ≡ told_by l.within.number (so_far l.self) (entries_of l.within.bytes.now l.within.number l.to l.at);
  room : header_size * l.self.count ≤ l.at;
  reach : l.at ≤ l.to;
}

abbrev pub decreases-loop-entry : goal.decreases-loop-entry
decreases-loop-entry l = l.to - l.at
