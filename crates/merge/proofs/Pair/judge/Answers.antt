use Rattle.std.proofs.Common.{rules, ℕ, true, false, ◌+◌, sym, ap, ◌∙◌, arith, [], ◌∷◌, ◌++◌, subst}
use Rattle.std.proofs.lemmas.List.{length_push}
use Rattle.merge.proofs.Walk.{Step, differing}
use Rattle.merge.proofs.Sources.{turned, ended}
use Rattle.merge.proofs.Pairs.{CameOf}
use Rattle.merge.proofs.Judges.{agreed_more, equal_agree, one_agrees, clashes, all_agree, count_fits}
use Rattle.merge.proofs.Pair.judge.Goals as goal
use Rattle.merge.proofs.Pair.judge.Goals.{in-Both+else-ne, in_default}

pub returns-then-ne : goal.returns-then-ne
returns-then-ne c =
    let came : CameOf c.args.self.now false (c.loop-step.yielded ++ (c.in-Some.step ∷ [])) =
    let made = c.merge_join_by-step-items.ensures in
    turned _ c.rows-ours.result c.rows.result _ _ c.into_iter-step-iterator.ensures.into_iter_gives made.first
    made.second made.held _ _ c.rows-ours.ensures c.rows.ensures _ (λ f x y r g q. search (rules)) c.loop-step.yielded
    _ _ c.loop-step.yielded_by _ (λ f x y r g q. search (rules)) c.in-Some.step c.in-Some.ensures.steps in
    clashes c.args.self.now c.loop-step.yielded _ _
    (subst (λ (z : Step). CameOf c.args.self.now false (c.loop-step.yielded ++ (z ∷ []))) c.in-Both.is came)
    c.loop-step.invariant.agreed (sym c.ne.ensures ∙ c.if-ne.true) c.clash.result c.clash.ensures

pub returns : goal.returns
returns c =
    let came : CameOf c.args.self.now true c.loop-step.yielded =
    let made = c.merge_join_by-step-items.ensures in
    ended _ c.rows-ours.result c.rows.result _ _ c.into_iter-step-iterator.ensures.into_iter_gives made.first
    made.second made.held _ _ c.rows-ours.ensures c.rows.ensures _ (λ f x y r g q. search (rules)) c.loop-step.yielded
    _ _ c.loop-step.yielded_by _ (λ f x y r g q. search (rules)) c.in-None.ensures.steps in
    all_agree c.args.self.now c.loop-step.yielded came c.loop-step.invariant.agreed c.loop-step.count
    c.loop-step.invariant.count

pub loop-step-preserved : goal.loop-step-preserved
loop-step-preserved c = record {
  count = ap (λ (n : ℕ). n + 1) c.loop-step.invariant.count ∙ sym (length_push c.loop-step.yielded c.in-Some.step);
  agreed =
      agreed_more c.loop-step.yielded c.in-Some.step c.loop-step.invariant.agreed
      (elim c.match-step.branch [
        | in-Both+else-ne w ↦
            let b = w.in-Both in
            ap differing b.is
            ∙ equal_agree (b.field-0-0, b.record) (b.row, b.other) (sym w.ne.ensures ∙ w.if-ne.false)
        | in_default w ↦ one_agrees c.in-Some.step w.in_default.not-Both
      ]);
}

pub overflow_add-count : goal.overflow_add-count
overflow_add-count c =
    let came : CameOf c.args.self.now false (c.loop-step.yielded ++ (c.in-Some.step ∷ [])) =
    let made = c.merge_join_by-step-items.ensures in
    turned _ c.rows-ours.result c.rows.result _ _ c.into_iter-step-iterator.ensures.into_iter_gives made.first
    made.second made.held _ _ c.rows-ours.ensures c.rows.ensures _ (λ f x y r g q. search (rules)) c.loop-step.yielded
    _ _ c.loop-step.yielded_by _ (λ f x y r g q. search (rules)) c.in-Some.step c.in-Some.ensures.steps in
    let few = count_fits c.args.self.now _ _ came in let more = length_push c.loop-step.yielded c.in-Some.step in
    omega (arith, c.loop-step.invariant.count)
