use Rattle.runs.proofs.Distances.{lead-back, lie-so-far}
use Rattle.runs.proofs.laws.distances_over_the_width.Goals as goal

pub returns-clause-back : goal.returns-clause-back
returns-clause-back c = lead-back

pub returns-clause-so : goal.returns-clause-so
returns-clause-so c = lie-so-far
