use Rattle.references.proofs.Rises.{sorted_rise, sorted_are_the_same}
use Rattle.references.proofs.laws.sorted_numbers_rise.Goals as goal

pub returns-clause-rise : goal.returns-clause-rise
returns-clause-rise c = sorted_rise

pub returns-clause-same : goal.returns-clause-same
returns-clause-same c = sorted_are_the_same
