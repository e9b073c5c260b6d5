use Rattle.extract.proofs.Risen.{numbers_rise, rising_is_accepted, fallen_is_told}
use Rattle.extract.proofs.laws.numbers_rise.Goals as goal

pub returns-clause-rise : goal.returns-clause-rise
returns-clause-rise c = numbers_rise

pub returns-clause-accepted : goal.returns-clause-accepted
returns-clause-accepted c = rising_is_accepted

pub returns-clause-told : goal.returns-clause-told
returns-clause-told c = fallen_is_told
