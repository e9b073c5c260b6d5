use Rattle.std.proofs.Common.{length, ap, sym, ◌∙◌, arith}
use Rattle.fields.specs.Told.{told}
use Rattle.extract.specs.Numbers.{refused_fallen, numbers_risen}
use Rattle.extract.proofs.Risen.{none_first, one_rises, one_falls, none_before}
use Rattle.extract.proofs.numbers.check_risen.Goals as goal

pub loop-i-init : goal.loop-i-init
loop-i-init c = record { some = omega arith; none = none_first c.args.numbers.now }

pub loop-i-preserved : goal.loop-i-preserved
loop-i-preserved c = record {
  some = omega arith;
  none = one_rises c.args.numbers.now c.loop-i.i c.loop-i.invariant.some c.loop-i.invariant.none
      (omega (arith, c.if-numbers-i.false));
}

pub returns-then-numbers-i : goal.returns-then-numbers-i
unfolding numbers_risen
returns-then-numbers-i c =
    let ns = c.args.numbers.now in
    ap told c.refuses.ensures
    ∙ ap refused_fallen (sym (one_falls ns c.loop-i.i (length ns) c.loop-i.invariant.some c.loop-i.invariant.none
    (omega (arith, c.if-numbers-i.true)) (omega (arith, c.loop-i-test.true))))

pub returns : goal.returns
unfolding numbers_risen
returns c = ap refused_fallen (sym (none_before c.args.numbers.now c.loop-i.i _ c.loop-i.invariant.none (omega arith)))
