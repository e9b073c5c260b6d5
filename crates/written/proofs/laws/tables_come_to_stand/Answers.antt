use Rattle.written.proofs.Pieces.{begin, follow, end}
use Rattle.written.proofs.laws.tables_come_to_stand.Goals as goal

pub returns-clause-begin : goal.returns-clause-begin
returns-clause-begin c = begin

pub returns-clause-follow : goal.returns-clause-follow
returns-clause-follow c = follow

pub returns-clause-end : goal.returns-clause-end
returns-clause-end c = end
