use Rattle.list.proofs.Given.{padding, empty_names}
use Rattle.list.proofs.laws.padding_tells_nothing.Goals as goal

pub returns-clause-padding : goal.returns-clause-padding
returns-clause-padding c = padding

pub returns-clause-empty : goal.returns-clause-empty
returns-clause-empty c = empty_names
