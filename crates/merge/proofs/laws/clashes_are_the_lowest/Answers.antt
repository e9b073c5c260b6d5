use Rattle.merge.proofs.Agrees.{agreed, lowest}
use Rattle.merge.proofs.laws.clashes_are_the_lowest.Goals as goal

pub returns-clause-agreed : goal.returns-clause-agreed
returns-clause-agreed c = λ xs ys a b. agreed xs ys

pub returns-clause-lowest : goal.returns-clause-lowest
returns-clause-lowest c = λ xs ys a b. lowest 0 xs ys b
