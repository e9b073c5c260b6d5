-- Whether the table has the number is settled by the rows that are left.
use Rattle.std.specs.Prelude.{◌≡◌, length}
use Rattle.table.specs.Rows.{rest}
use Rattle.lookups.specs.Wanted.{has}
use Rattle.lookups.proofs.InTurn.{left}
use Rattle.lookups.proofs.has_in_turn.Given as goal

abbrev pub invariant-rows : goal.invariant-rows
invariant-rows l = left (rest l.rows) l.wanted ≡ has l.table.bytes.now l.wanted

abbrev pub decreases-rows : goal.decreases-rows
decreases-rows l = length (rest l.rows)
