-- The number goes to the first place that is told no number, and zeros stand behind it.
use Rattle.std.proofs.Common.{arith}
use Rattle.references.proofs.Lists.{zeros_more}
use Rattle.references.proofs.References.add.Goals as goal

pub invariant_of-self : goal.invariant_of-self
invariant_of-self c = record { few = omega arith; rest = zeros_more _ _ _ c.args.self.now.rest }
