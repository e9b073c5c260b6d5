use Rattle.parts.proofs.Some.{whole_parts_are_some}
use Rattle.parts.proofs.laws.whole_parts_are_some.Goals as goal

pub returns : goal.returns
returns c = whole_parts_are_some
