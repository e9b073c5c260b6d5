use Rattle.std.proofs.Common.{◌^◌, ◌≤◌, arith}
use native.Mathlib.Nat.{pow-le-pow_right}
use Rattle.runs.proofs.number.start_of.Goals as goal

pub pow-whole-requires : goal.pow-whole-requires
pow-whole-requires c =
    let h : 256 ^ c.args.width ≤ 256 ^ 8 = pow-le-pow_right (omega arith) c.requires.narrow in
    omega arith
