use Rattle.items.proofs.Settled.{openings_settle, sought_settle, walks_settle}
use Rattle.items.proofs.laws.results_settle.Goals as goal

pub returns-clause-files : goal.returns-clause-files
returns-clause-files c = openings_settle

pub returns-clause-searches : goal.returns-clause-searches
returns-clause-searches c = sought_settle

pub returns-clause-walks : goal.returns-clause-walks
returns-clause-walks c = walks_settle
