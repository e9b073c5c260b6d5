-- What the walk gives from the loop's state is what it gives from its start; what it read is paid by what was left.
use Rattle.std.specs.Prelude.{◌≡◌, ◌+◌, ◌*◌, ◌≤◌, length, IfSome}
use Rattle.table.specs.Held.{record_of}
use Rattle.items.specs.Lies.{Lies}
use Rattle.items.specs.State.{weight}
use Rattle.items.specs.Items.{next_in, next_by}
use Rattle.items.specs.Walked.{report_of}
use Rattle.items.proofs.Steps.{after}
use Rattle.items.proofs.File.next_inside.Given as goal

abbrev pub invariant-entries : goal.invariant-entries
invariant-entries l = record {
  same : report_of (next_in l.self.base.bytes.now l.self.base.number (record_of l.self.table.bytes.now) l.fn.at)
      ≡ after l.reads (next_by l.self.base.bytes.now l.self.base.number
      (record_of l.self.table.bytes.now) l.at.raw l.at.list l.at.key);
  lies : IfSome l.at.list (Lies (length l.self.base.bytes.now));
  paid : l.reads + 257 * weight (length l.self.base.bytes.now) l.at ≤ 257 * weight
      (length l.self.base.bytes.now) l.fn.at;
  less : weight (length l.self.base.bytes.now) l.at ≤ weight (length l.self.base.bytes.now) l.initial.at;
}

abbrev pub decreases-entries : goal.decreases-entries
decreases-entries l = weight (length l.self.base.bytes.now) l.at

abbrev pub invariant-raw : goal.invariant-raw
invariant-raw l = record {
  same : report_of (next_in l.self.base.bytes.now l.self.base.number (record_of l.self.table.bytes.now) l.fn.at)
      ≡ after l.reads (next_by l.self.base.bytes.now l.self.base.number
      (record_of l.self.table.bytes.now) l.at.raw l.at.list l.at.key);
  lies : IfSome l.at.list (Lies (length l.self.base.bytes.now));
  paid : l.reads + 257 * weight (length l.self.base.bytes.now) l.at ≤ 257 * weight
      (length l.self.base.bytes.now) l.fn.at;
}

abbrev pub decreases-raw : goal.decreases-raw
decreases-raw l = weight (length l.self.base.bytes.now) l.at
