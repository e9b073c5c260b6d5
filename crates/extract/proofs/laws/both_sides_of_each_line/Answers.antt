use Rattle.extract.proofs.Cases.{size_limits, end_limits, rise_limits, one_each_limits, first_limits, base_limits}
use Rattle.extract.proofs.Cases.{number_limits, place_limits, count_limits, pair_limits}
use Rattle.extract.proofs.laws.both_sides_of_each_line.Goals as goal

pub returns-clause-sizes : goal.returns-clause-sizes
returns-clause-sizes c = size_limits

pub returns-clause-ends : goal.returns-clause-ends
returns-clause-ends c = end_limits

pub returns-clause-rise : goal.returns-clause-rise
returns-clause-rise c = rise_limits

pub returns-clause-each : goal.returns-clause-each
returns-clause-each c = one_each_limits

pub returns-clause-first : goal.returns-clause-first
returns-clause-first c = first_limits

pub returns-clause-base : goal.returns-clause-base
returns-clause-base c = base_limits

pub returns-clause-numbers : goal.returns-clause-numbers
returns-clause-numbers c = number_limits

pub returns-clause-places : goal.returns-clause-places
returns-clause-places c = place_limits

pub returns-clause-counts : goal.returns-clause-counts
returns-clause-counts c = count_limits

pub returns-clause-pairs : goal.returns-clause-pairs
returns-clause-pairs c = pair_limits
