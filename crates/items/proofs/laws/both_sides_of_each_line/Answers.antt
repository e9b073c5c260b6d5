use Rattle.items.proofs.Lines.{both_sides, joined}
use Rattle.items.proofs.laws.both_sides_of_each_line.Goals as goal

pub returns-clause-bytes : goal.returns-clause-bytes
returns-clause-bytes c = both_sides

pub returns-clause-streams : goal.returns-clause-streams
returns-clause-streams c = joined
