-- The row sought is neither before `from` nor from `to` on; each look leaves at most half of what was between.
use Rattle.std.specs.Prelude.{◌≤◌, ◌-◌}
use Rattle.table.proofs.Halves.{Before, Behind}
use Rattle.table.proofs.Looks.{Looked}
use Rattle.table.proofs.look.Directory.search.Given as goal

abbrev pub invariant-search : goal.invariant-search
invariant-search g l = record {
  ends : l.to ≤ l.self.table.header.count;
  before : Before l.self.table.bytes.now l.self.table.header l.wanted l.from;
  behind : Behind l.self.table.bytes.now l.self.table.header l.wanted l.to;
  on : l.fn.looks ≤ l.looks;
  looked : Looked l.self.table.header.count l.fn.looks l.looks (l.to - l.from);
}

abbrev pub decreases-search : goal.decreases-search
decreases-search g l = l.to - l.from
