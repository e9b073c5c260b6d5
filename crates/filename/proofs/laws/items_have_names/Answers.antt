use Rattle.filename.proofs.Turns.{refusals_end}
use Rattle.filename.proofs.Has.{items_have_names}
use Rattle.filename.proofs.laws.items_have_names.Goals as goal

pub returns-clause-items : goal.returns-clause-items
returns-clause-items c = items_have_names

pub returns-clause-refusals : goal.returns-clause-refusals
returns-clause-refusals c = refusals_end
