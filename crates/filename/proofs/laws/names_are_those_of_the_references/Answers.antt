use Rattle.filename.proofs.Agreed.{names_agree, found_agree}
use Rattle.filename.proofs.laws.names_are_those_of_the_references.Goals as goal

pub returns-clause-names : goal.returns-clause-names
returns-clause-names c = names_agree

pub returns-clause-found : goal.returns-clause-found
returns-clause-found c = found_agree
