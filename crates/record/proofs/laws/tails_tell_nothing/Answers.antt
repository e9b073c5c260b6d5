use Rattle.record.proofs.Tails.{tails-give-nothing}
use Rattle.record.proofs.TailContents.{tails-change-nothing}
use Rattle.record.proofs.laws.tails_tell_nothing.Goals as goal

pub returns-clause-attributes : goal.returns-clause-attributes
returns-clause-attributes c = tails-give-nothing

pub returns-clause-contents : goal.returns-clause-contents
returns-clause-contents c = tails-change-nothing
