use Rattle.std.proofs.Common.{arith}
use Rattle.extract.proofs.Sizes.{few_records}
use Rattle.extract.proofs.Extract.small_number.Goals as goal

pub offset_bounds-numbers-i : goal.offset_bounds-numbers-i
offset_bounds-numbers-i c = let n = few_records _ _ c.args.self.now.checked in omega arith
