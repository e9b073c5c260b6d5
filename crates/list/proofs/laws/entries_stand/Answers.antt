use Rattle.list.proofs.Given.{given, names}
use Rattle.list.proofs.laws.entries_stand.Goals as goal

pub returns-clause-stand : goal.returns-clause-stand
returns-clause-stand c = given

pub returns-clause-names : goal.returns-clause-names
returns-clause-names c = names
