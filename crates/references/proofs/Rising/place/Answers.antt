-- The number goes behind those that are no larger, and in front of the others.
use Rattle.std.proofs.Common.{arith, sym, ap, ◌∙◌, ◌++◌, take}
use Rattle.references.specs.Shown.{shown_rising}
use Rattle.references.proofs.Sorts.{passed, stopped_behind, stopped_before, put_is, put_zeros}
use Rattle.references.proofs.Rising.place.Goals.{then-loop-at-test+else-self-at, else-loop-at-test}
use Rattle.references.proofs.Rising.place.Goals as goal

pub loop-at-preserved : goal.loop-at-preserved
loop-at-preserved c = record {
  reach = omega arith;
  same = passed _ _ _ _ (omega arith) c.loop-at-test.true c.if-self-at.true c.loop-at.invariant.same;
}

pub invariant_of-self : goal.invariant_of-self
invariant_of-self c = record {
  few = omega arith;
  rest = put_zeros _ _ _ _ c.loop-at.invariant.reach (omega arith) _ c.rotate_right.ensures.after c.args.self.now.rest;
}

pub returns-clause-placed : goal.returns-clause-placed
returns-clause-placed c =
    let i = c.loop-at.invariant in
    put_is _ _ _ _ i.reach (omega arith) _ c.rotate_right.ensures.after
    ∙ sym (i.same ∙ ap (λ ys. take c.loop-at.at (shown_rising c.args.self.now) ++ ys) (elim c.loop-at-test.branch [
      | then-loop-at-test+else-self-at w ↦ stopped_before _ _ _ _ (omega arith) w.loop-at-test.true w.if-self-at.false
      | else-loop-at-test w ↦ stopped_behind _ _ _ _ (omega arith) w.loop-at-test.false
    ]))
