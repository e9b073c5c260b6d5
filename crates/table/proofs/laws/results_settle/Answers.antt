use Rattle.table.proofs.Sound.{sound}
use Rattle.table.proofs.Holds.{one_answer}
use Rattle.table.proofs.laws.results_settle.Goals as goal

pub returns-clause-rows : goal.returns-clause-rows
returns-clause-rows c = λ t h e. one_answer (sound t h e)
