use Rattle.extract.proofs.laws.protected_records_are_read.Goals as goal
use Rattle.extract.proofs.Protected.{read_as_protected}

pub returns : goal.returns
returns c = read_as_protected
