-- The law over the width, cut at 4.
use Rattle.std.proofs.Common.{arith}
use Rattle.fields.proofs.Width.{split}
use Rattle.fields.proofs.bytes.u48_at.Goals as goal

pub returns : goal.returns
returns c = omega (arith, split 4 2 c.args.s.now c.args.at)
