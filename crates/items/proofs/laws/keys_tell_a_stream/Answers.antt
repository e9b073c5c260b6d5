use Rattle.items.proofs.Continues.{keys_tell, tails_tell_nothing}
use Rattle.items.proofs.laws.keys_tell_a_stream.Goals as goal

pub returns-clause-stream : goal.returns-clause-stream
returns-clause-stream c = keys_tell

pub returns-clause-tails : goal.returns-clause-tails
returns-clause-tails c = tails_tell_nothing
