use Rattle.segments.proofs.Tests.{eight, base_records_tell}
use Rattle.segments.proofs.laws.base_records_tell.Goals as goal

pub returns-clause-eight : goal.returns-clause-eight
returns-clause-eight c = eight

pub returns-clause-tell : goal.returns-clause-tell
returns-clause-tell c = base_records_tell
