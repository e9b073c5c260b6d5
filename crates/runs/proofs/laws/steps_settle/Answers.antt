use Rattle.runs.proofs.Settled.{steps-settle}
use Rattle.runs.proofs.laws.steps_settle.Goals as goal

pub returns : goal.returns
returns c = steps-settle
