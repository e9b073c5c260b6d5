use Rattle.record.proofs.Walks.{walks-end}
use Rattle.record.proofs.laws.walks_end.Goals as goal

pub returns : goal.returns
returns c = walks-end
