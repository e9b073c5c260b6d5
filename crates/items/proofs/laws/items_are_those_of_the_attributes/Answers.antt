use Rattle.items.proofs.Whole.{items_of_attributes, keys_outlive_lists}
use Rattle.items.proofs.laws.items_are_those_of_the_attributes.Goals as goal

pub returns-clause-items : goal.returns-clause-items
returns-clause-items c = items_of_attributes

pub returns-clause-keys : goal.returns-clause-keys
returns-clause-keys c = keys_outlive_lists
