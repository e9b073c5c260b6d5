use Rattle.naming.proofs.Back.{units_read_back}
use Rattle.naming.proofs.laws.units_read_back.Goals as goal

pub returns : goal.returns
returns c = units_read_back
