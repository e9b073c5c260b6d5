use Rattle.std.proofs.Common.{refl, sym, ap, ◌∙◌, arith}
use Rattle.fields.specs.Le.{le}
use Rattle.extract.specs.Fixup.{pairs_agree}
use Rattle.extract.proofs.Judges.{check_inside, one_agrees, one_differs}
use Rattle.extract.proofs.fixup.pairs_agree.Goals as goal

pub u16_at-check-requires : goal.u16_at-check-requires
u16_at-check-requires c = let i = check_inside c.args.raw.now c.requires.good in omega arith

pub loop-i-init : goal.loop-i-init
unfolding pairs_agree
loop-i-init c = refl

pub loop-i-preserved : goal.loop-i-preserved
loop-i-preserved c =
    let s = c.args.raw.now in
    one_agrees s c.loop-i.i c.loop-i.invariant
    (ap (le 2 s) (sym c.pair_at.ensures) ∙ sym c.u16_at-in-loop-i.ensures ∙ c.if-u16_at-check.false
    ∙ c.u16_at-check.ensures ∙ ap (le 2 s) c.u16_at.ensures)

pub returns-then-u16_at-check : goal.returns-then-u16_at-check
returns-then-u16_at-check c =
    let s = c.args.raw.now in
    one_differs s c.loop-i.i _ c.loop-i-test.true
    (λ e. c.if-u16_at-check.true
    (c.u16_at-in-loop-i.ensures ∙ ap (le 2 s) c.pair_at.ensures ∙ e
    ∙ ap (le 2 s) (sym c.u16_at.ensures) ∙ sym c.u16_at-check.ensures))
