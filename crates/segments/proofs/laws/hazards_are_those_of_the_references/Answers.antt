use Rattle.segments.proofs.Agreed.{hazards_agree}
use Rattle.segments.proofs.laws.hazards_are_those_of_the_references.Goals as goal

pub returns : goal.returns
returns c = hazards_agree
