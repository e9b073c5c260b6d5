use Rattle.record.proofs.Settled.{records_settle, views_settle, values_settle}
use Rattle.record.proofs.laws.results_settle.Goals as goal

pub returns-clause-records : goal.returns-clause-records
returns-clause-records c = records_settle

pub returns-clause-views : goal.returns-clause-views
returns-clause-views c = views_settle

pub returns-clause-values : goal.returns-clause-values
returns-clause-values c = values_settle
