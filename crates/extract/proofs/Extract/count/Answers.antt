use Rattle.std.proofs.Common.{arith}
use Rattle.extract.proofs.Sizes.{sized}
use Rattle.extract.proofs.Extract.count.Goals as goal

pub nonzero_div-result : goal.nonzero_div-result
nonzero_div-result c = let x = (sized _ _ c.args.self.now.checked).least in omega arith
