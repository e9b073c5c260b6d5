use Rattle.agreement.proofs.Lines.{tables_list}
use Rattle.agreement.proofs.tables_list_as_what_they_are_of.Goals as goal

pub returns : goal.returns
returns c = tables_list
