use Rattle.std.proofs.Common.{arith}
use Rattle.extract.proofs.Judges.{kept_inside}
use Rattle.extract.proofs.fixup.kept.Goals as goal

pub slice_bounds-result-end : goal.slice_bounds-result-end
slice_bounds-result-end c = let k = kept_inside c.args.raw.now c.args.i c.requires.good c.requires.inside in omega arith
