use Rattle.command.proofs.Fronts.{fronts_tell, fronts_explain}
use Rattle.command.proofs.laws.fronts_tell.Goals as goal

pub returns-clause-tell : goal.returns-clause-tell
returns-clause-tell c = fronts_tell

pub returns-clause-explain : goal.returns-clause-explain
returns-clause-explain c = fronts_explain
