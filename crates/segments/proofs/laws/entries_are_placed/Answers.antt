use Rattle.segments.proofs.Places.{entries_are_placed}
use Rattle.segments.proofs.laws.entries_are_placed.Goals as goal

pub returns : goal.returns
returns c = entries_are_placed
