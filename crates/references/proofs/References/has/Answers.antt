-- std's test is the definition's.
use Rattle.std.proofs.Common.{◌∙◌}
use Rattle.references.proofs.Lists.{any_among}
use Rattle.references.proofs.References.has.Goals as goal

pub returns : goal.returns
returns c = c.contains.ensures.value ∙ any_among _ _
