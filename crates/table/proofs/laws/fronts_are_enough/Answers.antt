use Rattle.table.proofs.Behind.{table_same, fault_same, base_same, record_same}
use Rattle.table.proofs.laws.fronts_are_enough.Goals as goal

pub returns-clause-answer : goal.returns-clause-answer
returns-clause-answer c = λ t r e. (table_same t r e, fault_same t r e)

pub returns-clause-hold : goal.returns-clause-hold
returns-clause-hold c = λ t r e h q. (base_same t r e h q, record_same t r e h q)
