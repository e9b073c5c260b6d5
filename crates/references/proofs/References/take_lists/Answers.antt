-- A list leaves the numbers told with the room that its attribute had.
use Rattle.std.proofs.Common.{arith, sym}
use Rattle.std.proofs.lemmas.Result.{err_from_is_err_and}
use Rattle.items.proofs.Steps.{raw_room}
use Rattle.record.proofs.Given.{of-step}
use Rattle.references.proofs.Steps.{told_begun, walk_ended, walk_refused, other_passed, list_taken, list_refused}
use Rattle.references.proofs.References.take_lists.Goals.{
  then-attribute-eq-ATTRIBUTE_LIST+in_ok-take_list,
  else-attribute-eq-ATTRIBUTE_LIST,
}
use Rattle.references.proofs.References.take_lists.Goals as goal

pub loop-attribute-init : goal.loop-attribute-init
loop-attribute-init c =
    let z = c.requires in
    record {
      same = told_begun _ _ _ c.args.self.now.numbers c.args.self.now.count c.requires c.first_attribute-at.ensures;
      room = omega arith;
    }

pub returns-in_err-attribute : goal.returns-in_err-attribute
returns-in_err-attribute c =
    let p = err_from_is_err_and c.from_residual.result c.from_residual.ensures.1 in
    rw (p.1, p.2) (walk_refused _ _ _ _ c.loop-attribute.invariant.same _ c.in_err-attribute.ensures.answer)

pub take_list-requires : goal.take_list-requires
take_list-requires c =
    let g = rw c.in-Some.is at c.in_ok-attribute.ensures.answer in
    let t = of-step _ _ _ _ (sym g) in let x = t.stands in
    let i = c.loop-attribute.invariant.room in
    omega arith

pub returns-in_err-take_list : goal.returns-in_err-take_list
returns-in_err-take_list c =
    let g = rw c.in-Some.is at c.in_ok-attribute.ensures.answer in
    let p = err_from_is_err_and c.from_residual-in_err-take_list.result c.from_residual-in_err-take_list.ensures.1 in
    rw (p.1, p.2) (list_refused _ _ _ _ c.loop-attribute.invariant.same _ g c.if-attribute-eq-ATTRIBUTE_LIST.true _ _
    c.in_err-take_list.ensures.told)

pub overflow_add-at : goal.overflow_add-at
overflow_add-at c =
    let g = rw c.in-Some.is at c.in_ok-attribute.ensures.answer in
    let r = raw_room _ _ _ _ g in let x = r.most in
    let z = c.args.within.now.most in
    omega arith

pub loop-attribute-smaller : goal.loop-attribute-smaller
loop-attribute-smaller c =
    let g = rw c.in-Some.is at c.in_ok-attribute.ensures.answer in
    let r = raw_room _ _ _ _ g in let x = r.least in let y = r.most in
    omega arith

pub loop-attribute-preserved : goal.loop-attribute-preserved
loop-attribute-preserved c =
    let g = rw c.in-Some.is at c.in_ok-attribute.ensures.answer in
    let t = of-step _ _ _ _ (sym g) in let x = t.stands in
    let i = c.loop-attribute.invariant.room in
    elim c.if-attribute-eq-ATTRIBUTE_LIST.branch [
      | then-attribute-eq-ATTRIBUTE_LIST+in_ok-take_list w ↦ rw w.self-is (record {
        same = list_taken _ _ _ _ c.loop-attribute.invariant.same _ g w.if-attribute-eq-ATTRIBUTE_LIST.true _
            w.in_ok-take_list.ensures.told;
        room = let y = w.take_list.ensures.room in omega arith;
      })
      | else-attribute-eq-ATTRIBUTE_LIST w ↦ rw w.self-is (record {
        same = other_passed _ _ _ _ c.loop-attribute.invariant.same _ g w.if-attribute-eq-ATTRIBUTE_LIST.false;
        room = omega arith;
      })
    ]

pub returns : goal.returns
returns c = let h = c.in_ok-attribute.ensures.answer in let i = c.in_default.is in
    walk_ended _ _ _ _ c.loop-attribute.invariant.same (rw i at h)
