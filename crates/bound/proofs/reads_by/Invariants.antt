-- The calls so far are a listing.
use Rattle.std.specs.Prelude.{length}
use Rattle.items.specs.State.{weight}
use Rattle.bound.proofs.Sofar.{Sofar}
use Rattle.bound.proofs.reads_by.Given as goal

abbrev pub invariant-items : goal.invariant-items
invariant-items l = Sofar l.file l.reads l.at

abbrev pub decreases-items : goal.decreases-items
decreases-items l = weight (length l.file.base.bytes.now) l.at
