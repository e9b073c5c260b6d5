use Rattle.std.specs.Prelude.{◌≡◌, count_by, take}
use Rattle.lookups.specs.Wanted.{has}
use Rattle.lookups.proofs.count.Given as goal

abbrev pub invariant-loop-n : goal.invariant-loop-n
invariant-loop-n l = l.held ≡ count_by (has l.table.bytes.now) (take l.n-index l.wanted)
