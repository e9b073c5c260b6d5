use Rattle.runs.proofs.Least.{least-sizes-fit}
use Rattle.runs.proofs.Read.{what-is-read-is-spelled}
use Rattle.runs.proofs.Spelled.{read-as-written}
use Rattle.runs.proofs.laws.runs_are_read_as_written.Goals as goal

pub returns-clause-back : goal.returns-clause-back
returns-clause-back c = read-as-written

pub returns-clause-least : goal.returns-clause-least
returns-clause-least c = least-sizes-fit

pub returns-clause-so : goal.returns-clause-so
returns-clause-so c = what-is-read-is-spelled
