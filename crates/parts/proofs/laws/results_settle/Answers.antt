use Rattle.parts.proofs.Settled.{filled_settle, collected_settle}
use Rattle.parts.proofs.laws.results_settle.Goals as goal

pub returns-clause-lent : goal.returns-clause-lent
returns-clause-lent c = filled_settle

pub returns-clause-by_value : goal.returns-clause-by_value
returns-clause-by_value c = collected_settle
