use Rattle.filename.proofs.Cases.{both_sides}
use Rattle.filename.proofs.laws.both_sides_of_each_line.Goals as goal

pub returns : goal.returns
returns c = both_sides
