use Rattle.items.proofs.Falls.{falls}
use Rattle.items.proofs.Calls.{calls_end, entries_end}
use Rattle.items.proofs.laws.walks_end.Goals as goal

pub returns-clause-lower : goal.returns-clause-lower
returns-clause-lower c = falls

pub returns-clause-calls : goal.returns-clause-calls
returns-clause-calls c = calls_end

pub returns-clause-entries : goal.returns-clause-entries
returns-clause-entries c = entries_end
