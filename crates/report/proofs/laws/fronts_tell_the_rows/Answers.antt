use Rattle.report.proofs.Alike.{fronts_tell}
use Rattle.report.proofs.laws.fronts_tell_the_rows.Goals as goal

pub returns : goal.returns
returns c = fronts_tell
