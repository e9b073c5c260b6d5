use Rattle.references.proofs.Once.{numbers_of_entries}
use Rattle.references.proofs.Few.{references_are_few}
use Rattle.references.proofs.laws.references_are_those_of_the_entries.Goals as goal

pub returns-clause-numbers : goal.returns-clause-numbers
returns-clause-numbers c = numbers_of_entries

pub returns-clause-few : goal.returns-clause-few
returns-clause-few c = references_are_few
