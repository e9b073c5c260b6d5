use Rattle.std.proofs.Common.{rules}
use Rattle.std.proofs.lemmas.Iterator.Consumers.{YieldsList-from_first}
use Rattle.std.proofs.lemmas.Iterator.Search.{find_from_yields_List}
use Rattle.fields.specs.Told.{told}
use Rattle.record.specs.Rest.{rest}
use Rattle.uses.specs.Chains.{stops_at}
use Rattle.uses.proofs.first_of_type.Goals as goal

pub returns : goal.returns
returns c =
    find_from_yields_List (stops_at c.args.ty) c.find.new.self _ _ c.find.ensures.ran
    (YieldsList-from_first told rest _ c.attributes.ensures.walk)
    (λ x b q k. search rules)
