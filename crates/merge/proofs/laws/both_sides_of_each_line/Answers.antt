use Rattle.merge.proofs.Cases.{size_limits, merge_limits, clash_limits, clash_first, call_limits}
use Rattle.merge.proofs.laws.both_sides_of_each_line.Goals as goal

pub returns-clause-sizes : goal.returns-clause-sizes
returns-clause-sizes c = size_limits

pub returns-clause-merge : goal.returns-clause-merge
returns-clause-merge c = merge_limits

pub returns-clause-clashes : goal.returns-clause-clashes
returns-clause-clashes c = clash_limits

pub returns-clause-first : goal.returns-clause-first
returns-clause-first c = clash_first

pub returns-clause-order : goal.returns-clause-order
returns-clause-order c = call_limits.0

pub returns-clause-room : goal.returns-clause-room
returns-clause-room c = call_limits.1
