use Rattle.filename.proofs.Lies.{names_lie, names_read_back}
use Rattle.filename.proofs.laws.names_lie_inside.Goals as goal

pub returns-clause-lie : goal.returns-clause-lie
returns-clause-lie c = names_lie

pub returns-clause-read_back : goal.returns-clause-read_back
returns-clause-read_back c = names_read_back
