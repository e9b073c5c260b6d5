use Rattle.list.proofs.Given.{steps_settle}
use Rattle.list.proofs.laws.steps_settle.Goals as goal

pub returns : goal.returns
returns c = steps_settle
