use Rattle.items.proofs.Comes.{items_come, items_are_found_again}
use Rattle.items.proofs.laws.items_are_found_again.Goals as goal

pub returns-clause-come : goal.returns-clause-come
returns-clause-come c = items_come

pub returns-clause-again : goal.returns-clause-again
returns-clause-again c = items_are_found_again
