-- The base record has the length that was asked.
use Rattle.items.proofs.Opened.{sized_in}
use Rattle.items.proofs.File.open.Goals as goal

pub invariant_of-result : goal.invariant_of-result
invariant_of-result c = record { sized = sized_in _ _ _ _ c.in_ok-base.ensures }
