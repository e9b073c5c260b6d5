use Rattle.std.proofs.Common.{rules, ℕ, true, false, ◌+◌, [], ◌∷◌, ◌++◌, length, refl, sym, ap, ◌∙◌, arith}
use Rattle.std.proofs.lemmas.List.{length_push}
use Rattle.written.proofs.Pieces.{header_stands}
use Rattle.merge.proofs.Sources.{turned, ended}
use Rattle.merge.proofs.Pairs.{CameOf}
use Rattle.table.specs.Held.{Held}
use Rattle.merge.proofs.Fills.{next_table, reduced, one_more, one_long, step_stands, all_stand}
use Rattle.merge.proofs.Pair.fill.Goals as goal

pub loop-step-init : goal.loop-step-init
loop-step-init c = record {
  row = refl;
  stands =
      let s = c.args.shape in
      header_stands s.size s.base s.count c.args.table.now c.copy_from_slice.new.self
      (c.copy_from_slice.ensures.after ∙ c.header.ensures) c.requires.room;
}

-- what has come up to a step whose row is put, and up to one whose row was put
came_put : (c : goal.After-put-arg-in-loop-step-1)
    → CameOf c.args.self.now false (c.loop-step.yielded ++ (c.in-Some.step ∷ []))
came_put c =
    let made = c.merge_join_by-step-items.ensures in
    turned _ c.rows-ours.result c.rows.result _ _ c.into_iter-step-iterator.ensures.into_iter_gives made.first
    made.second made.held _ _ c.rows-ours.ensures c.rows.ensures _ (λ f x y r g q. search (rules)) c.loop-step.yielded
    _ _ c.loop-step.yielded_by _ (λ f x y r g q. search (rules)) c.in-Some.step c.in-Some.ensures.steps

came_behind : (c : goal.After-slice_known-in-loop-step-1)
    → CameOf c.args.self.now false (c.loop-step.yielded ++ (c.in-Some.step ∷ []))
came_behind c =
    let made = c.merge_join_by-step-items.ensures in
    turned _ c.rows-ours.result c.rows.result _ _ c.into_iter-step-iterator.ensures.into_iter_gives made.first
    made.second made.held _ _ c.rows-ours.ensures c.rows.ensures _ (λ f x y r g q. search (rules)) c.loop-step.yielded
    _ _ c.loop-step.yielded_by _ (λ f x y r g q. search (rules)) c.in-Some.step c.in-Some.ensures.steps

pub put-requires-clause-row : goal.put-requires-clause-row
put-requires-clause-row c =
    let more = one_more c.args.self.now c.loop-step.yielded c.in-Some.step (came_put c) in
    omega (arith, c.loop-step.invariant.row, c.requires.count)

pub put-requires-clause-size : goal.put-requires-clause-size
put-requires-clause-size c =
    let long = one_long c.args.self.now c.loop-step.yielded c.in-Some.step (came_put c) in
    let row = reduced _ c.in-Some.step c.reduce.result (λ x y q. search (rules)) c.reduce.ensures in
    ap (λ (r : Held). length r.bytes) row ∙ long ∙ sym c.requires.size

pub overflow_add-i : goal.overflow_add-i
overflow_add-i c =
    let more = one_more c.args.self.now c.loop-step.yielded c.in-Some.step (came_behind c) in
    let few = c.args.shape.few in
    omega (arith, c.loop-step.invariant.row, c.requires.count)

pub loop-step-preserved : goal.loop-step-preserved
loop-step-preserved c =
    let came = came_behind c in
    let more = one_more c.args.self.now c.loop-step.yielded c.in-Some.step came in
    let long = one_long c.args.self.now c.loop-step.yielded c.in-Some.step came in
    let row = reduced _ c.in-Some.step c.reduce.result (λ x y q. search (rules)) c.reduce.ensures in
    let s = c.args.shape in
    record {
      row =
          ap (λ (n : ℕ). n + 1) c.loop-step.invariant.row ∙ sym (length_push c.loop-step.yielded c.in-Some.step);
      stands =
          step_stands c.args.self.now s.size s.base s.count c.loop-step.i c.loop-step.yielded c.in-Some.step
          c.args.table.now c.loop-step.table c.put.new.table c.requires.room c.loop-step.invariant.row
          (omega (arith, c.loop-step.invariant.row, c.requires.count)) (long ∙ sym c.requires.size)
          (c.put.ensures
          ∙ ap (λ (r : Held). next_table c.args.self.now s.size s.count c.loop-step.i r c.loop-step.table) row)
          c.loop-step.invariant.stands;
    }

pub returns : goal.returns
returns c =
    let came : CameOf c.args.self.now true c.loop-step.yielded =
    let made = c.merge_join_by-step-items.ensures in
    ended _ c.rows-ours.result c.rows.result _ _ c.into_iter-step-iterator.ensures.into_iter_gives made.first
    made.second made.held _ _ c.rows-ours.ensures c.rows.ensures _ (λ f x y r g q. search (rules)) c.loop-step.yielded
    _ _ c.loop-step.yielded_by _ (λ f x y r g q. search (rules)) c.in-None.ensures.steps in
    let s = c.args.shape in
    all_stand c.args.self.now s.size s.base s.count c.loop-step.yielded c.args.table.now c.loop-step.table came
    c.requires.size c.requires.count c.requires.base c.loop-step.invariant.stands
