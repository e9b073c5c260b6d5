use Rattle.items.proofs.Calls.{calls_give_items}
use Rattle.items.proofs.laws.calls_give_the_items.Goals as goal

pub returns : goal.returns
returns c = calls_give_items
