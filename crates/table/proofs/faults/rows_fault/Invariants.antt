-- No row so far has a fault, and `least` is what the next one's number must reach.
use Rattle.std.specs.Prelude.{◌≡◌, None}
use Rattle.table.specs.Loop.{least_at}
use Rattle.table.specs.Fault.{rows_fault}
use Rattle.table.proofs.faults.rows_fault.Given as goal

abbrev pub invariant-loop-i : goal.invariant-loop-i
invariant-loop-i l = record {
  clear : rows_fault l.t l.h l.i ≡ None;
  reached : l.least ≡ least_at l.t l.h l.i;
}
