-- Every row so far is good, and `least` is what the next one's number must reach.
use Rattle.std.specs.Prelude.{◌≡◌}
use Rattle.fields.specs.Answer.{gives}
use Rattle.table.specs.Check.{rows_checked}
use Rattle.table.specs.Loop.{least_at}
use Rattle.table.proofs.check.check_rows.Given as goal

abbrev pub invariant-loop-i : goal.invariant-loop-i
invariant-loop-i l = record {
  checked : rows_checked l.t l.h l.i ≡ gives tt;
  reached : l.least ≡ least_at l.t l.h l.i;
}
