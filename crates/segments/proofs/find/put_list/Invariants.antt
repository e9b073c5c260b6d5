-- What was found, and what is found from the loop's place on, is what is found of the whole list.
use Rattle.std.proofs.Common.{◌-◌, ◌≤◌}
use Rattle.table.specs.Held.{record_of}
use Rattle.record.specs.Value.{list_in}
use Rattle.items.specs.Items.{entries_of}
use Rattle.segments.specs.Placed.{placed, list_placed}
use Rattle.segments.proofs.Steps.{Goes}
use Rattle.segments.proofs.find.put_list.Given as goal

abbrev pub invariant-loop-entry : goal.invariant-loop-entry
invariant-loop-entry l = record {
  goes : Goes l.file.base.bytes.now l.file.base.number (record_of l.file.table.bytes.now) l.fn.found.items l.found.items
      (list_placed l.file.base.bytes.now l.file.base.number
      (list_in l.file.base.bytes.now l.file.base.number l.fn.attribute))
      (placed l.at (entries_of l.file.base.bytes.now l.file.base.number l.to l.at));
  reach : l.at ≤ l.to;
}

abbrev pub decreases-loop-entry : goal.decreases-loop-entry
decreases-loop-entry l = l.to - l.at
