use Rattle.std.proofs.Common.{◌+◌, ◌-◌, ◌≤◌, ◌≡◌, length, ap, ◌∙◌, arith}
use Rattle.extract.specs.Fixup.{fixed_below}
use Rattle.extract.proofs.Judges.{one_long, one_fixed}
use Rattle.extract.proofs.fixup.fix_up.Goals as goal

pub loop-i-init : goal.loop-i-init
unfolding fixed_below
loop-i-init c = record {
  long = c.copy_from_slice.ensures.len ∙ c.requires.long;
  fixed = c.copy_from_slice.ensures.after;
}

pub loop-i-preserved : goal.loop-i-preserved
loop-i-preserved c =
    let b = c.copy_from_slice-in-loop-i.new.self in
    let e = c.copy_from_slice-in-loop-i.ensures.after in
    let two : length b ≡ 2 = ap length e ∙ c.kept.ensures.long in
    let k : c.pair_at-at.result + 2 - c.pair_at-at.result ≡ 2 = omega arith in
    let fits : c.pair_at-at.result + 2 ≤ length c.loop-i.room = omega (arith, c.loop-i.invariant.long) in
    record {
      long = one_long _ _ _ b k two fits ∙ c.loop-i.invariant.long;
      fixed = one_fixed c.args.raw.now _ b c.loop-i.i _ _ c.loop-i.invariant.fixed c.pair_at-at.ensures k
          (e ∙ c.kept.ensures.pair) two;
    }
