use Rattle.std.proofs.Common.{suc, ◌*◌, ◌≤◌, arith}
use Rattle.std.proofs.Math.Nat.{mul-le-mul_left}
use Rattle.extract.proofs.Extract.put.Goals as goal

pub slice_bounds-fix_up-end : goal.slice_bounds-fix_up-end
slice_bounds-fix_up-end c =
    let size = c.args.shape.size in
    let m : size * suc c.args.row ≤ size * c.args.shape.count = mul-le-mul_left size (omega (arith, c.requires.row)) in
    let long = c.record-raw.ensures.long in let same = c.requires.size in
    omega (arith, c.requires.room)
