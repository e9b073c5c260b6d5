-- A line more, no line, no room.
use Rattle.std.proofs.Common.{arith, refl, ◌∙◌}
use Rattle.lines.proofs.Fills.{begun, line_more, no_line, no_room}
use Rattle.lines.proofs.Whole.{none_lost}
use Rattle.lines.proofs.Lines.fill.Goals as goal

pub loop-out-init : goal.loop-out-init
loop-out-init c = record { page = begun _ _; size = refl }

pub loop-out-preserved : goal.loop-out-preserved
loop-out-preserved c =
    let t = c.loop-out-test.true in let p = c.put_line-at.ensures in let m = p.most in
    record {
      page = line_more _ _ _ _ _ c.loop-out.invariant.page _ _ _ _ 256 c.in-Some.ensures.gives t p (omega arith);
      size = c.next.ensures.size ∙ c.loop-out.invariant.size;
    }

pub returns-in_default-clause-page : goal.returns-in_default-clause-page
returns-in_default-clause-page c = no_line _ _ _ _ _ c.loop-out.invariant.page c.in_default.ensures.gives.0 _
    c.in_default.ensures.gives.1

pub returns-clause-page : goal.returns-clause-page
returns-clause-page c = no_room _ _ _ _ _ c.loop-out.invariant.page c.loop-out-test.false

pub returns-in_default-clause-none_lost : goal.returns-in_default-clause-none_lost
returns-in_default-clause-none_lost c = none_lost _ _ (returns-in_default-clause-page c)

pub returns-clause-none_lost : goal.returns-clause-none_lost
returns-clause-none_lost c = none_lost _ _ (returns-clause-page c)
