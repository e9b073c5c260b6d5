use Rattle.filename.proofs.Says.{has, has_first}
use Rattle.filename.proofs.laws.names_are_found.Goals as goal

pub returns-clause-has : goal.returns-clause-has
returns-clause-has c = has

pub returns-clause-first : goal.returns-clause-first
returns-clause-first c = has_first
