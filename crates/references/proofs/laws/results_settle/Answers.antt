use Rattle.references.proofs.Settled.{references_settle, rising_settle}
use Rattle.references.proofs.laws.results_settle.Goals as goal

pub returns-clause-references : goal.returns-clause-references
returns-clause-references c = references_settle

pub returns-clause-rising : goal.returns-clause-rising
returns-clause-rising c = rising_settle
