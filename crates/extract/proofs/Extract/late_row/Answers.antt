use Rattle.std.proofs.Common.{arith}
use Rattle.extract.proofs.Sizes.{few_records}
use Rattle.extract.proofs.Extract.late_row.Goals as goal

pub overflow_mul-result : goal.overflow_mul-result
overflow_mul-result c = let n = few_records _ _ c.args.self.now.checked in omega arith

pub overflow_add-result : goal.overflow_add-result
overflow_add-result c = let n = few_records _ _ c.args.self.now.checked in omega arith
