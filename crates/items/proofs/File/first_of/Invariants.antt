-- What comes of the calls from the loop's state, behind what was read, is what comes of the whole walk.
use Rattle.std.specs.Prelude.{◌≡◌, ◌+◌, ◌*◌, ◌≤◌, length}
use Rattle.table.specs.Held.{record_of}
use Rattle.items.specs.State.{weight}
use Rattle.items.specs.Calls.{calls_from}
use Rattle.items.specs.First.{counting, first_in, first_of}
use Rattle.items.proofs.File.first_of.Given as goal

abbrev pub invariant-items : goal.invariant-items
invariant-items l = record {
  same : first_of l.self.base.bytes.now l.self.base.number (record_of l.self.table.bytes.now) l.ty
      ≡ counting l.reads (first_in l.self.base.number l.ty (calls_from l.self.base.bytes.now l.self.base.number
      (record_of l.self.table.bytes.now) l.at));
  paid : l.reads + 257 * weight (length l.self.base.bytes.now) l.at ≤ 514 * length l.self.base.bytes.now;
}

abbrev pub decreases-items : goal.decreases-items
decreases-items l = weight (length l.self.base.bytes.now) l.at
