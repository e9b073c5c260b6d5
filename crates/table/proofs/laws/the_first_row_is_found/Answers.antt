use Rattle.table.proofs.Sound.{sound}
use Rattle.table.proofs.InTurn.{first_found, record_told_first}
use Rattle.table.proofs.laws.the_first_row_is_found.Goals as goal

pub returns-clause-found : goal.returns-clause-found
returns-clause-found c = λ t h e n o p. first_found (sound t h e) n o p

pub returns-clause-told : goal.returns-clause-told
returns-clause-told c = λ t h e n. record_told_first t h n (sound t h e).head.is
