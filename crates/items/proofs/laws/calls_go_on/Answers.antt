use Rattle.items.proofs.Further.{calls_go_on}
use Rattle.items.proofs.Ended.{ends_stay}
use Rattle.items.proofs.laws.calls_go_on.Goals as goal

pub returns-clause-further : goal.returns-clause-further
returns-clause-further c = calls_go_on

pub returns-clause-ended : goal.returns-clause-ended
returns-clause-ended c = ends_stay
