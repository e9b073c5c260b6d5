use Rattle.merge.proofs.Fronts.{merge_same, merged_same}
use Rattle.merge.proofs.laws.fronts_are_enough.Goals as goal

pub returns : goal.returns
returns c = λ s t more rest m a b. (merge_same s t more rest m a b, merged_same s t more rest m a b)
