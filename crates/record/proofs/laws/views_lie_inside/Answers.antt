use Rattle.record.proofs.Spans.{names-lie, values-lie, lists-lie}
use Rattle.record.proofs.laws.views_lie_inside.Goals as goal

pub returns-clause-names : goal.returns-clause-names
returns-clause-names c = names-lie

pub returns-clause-values : goal.returns-clause-values
returns-clause-values c = values-lie

pub returns-clause-lists : goal.returns-clause-lists
returns-clause-lists c = lists-lie
