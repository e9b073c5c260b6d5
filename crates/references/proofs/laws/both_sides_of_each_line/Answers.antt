use Rattle.references.proofs.Cases.{references_told, sorted_so}
use Rattle.references.proofs.laws.both_sides_of_each_line.Goals as goal

pub returns-clause-references : goal.returns-clause-references
returns-clause-references c = references_told

pub returns-clause-sorts : goal.returns-clause-sorts
returns-clause-sorts c = sorted_so
