-- A list goes on behind its attribute, or stops the walk.
use Rattle.std.proofs.Common.{arith}
use Rattle.items.proofs.Steps.{raw_room}
use Rattle.segments.proofs.Steps.{lists_begun, walk_ended, walk_refused, other_passed, list_taken, list_stopped}
use Rattle.segments.proofs.find.put_lists.Goals.{
  else-attribute-eq-ATTRIBUTE_LIST-via-then-attribute-eq-ATTRIBUTE_LIST+in_ok-put_list+else-not-branch as listed,
  else-attribute-eq-ATTRIBUTE_LIST-via-else-attribute-eq-ATTRIBUTE_LIST as other,
}
use Rattle.segments.proofs.find.put_lists.Goals as goal

pub loop-attribute-init : goal.loop-attribute-init
loop-attribute-init c = lists_begun _ _ _ _ _ c.first_attribute-at.ensures

pub returns-then-not-branch : goal.returns-then-not-branch
returns-then-not-branch c =
    let g = rw c.in-Ok-Some.field-0-is at c.in-Ok-Some.ensures.answer in
    list_stopped _ _ _ _ _ _ c.loop-attribute.invariant _ g c.if-attribute-eq-ATTRIBUTE_LIST.true _ _
    (record { same = c.in_ok-put_list.ensures.hazards; whole = c.in_ok-put_list.ensures.whole }) c.if-not-branch.true

pub overflow_add-at : goal.overflow_add-at
overflow_add-at c =
    let g = rw c.in-Ok-Some.field-0-is at c.in-Ok-Some.ensures.answer in
    let r = raw_room _ _ _ _ g in let x = r.most in
    let z = c.args.file.now.base.most in
    omega arith

pub loop-attribute-smaller : goal.loop-attribute-smaller
loop-attribute-smaller c =
    let g = rw c.in-Ok-Some.field-0-is at c.in-Ok-Some.ensures.answer in
    let r = raw_room _ _ _ _ g in let x = r.least in let y = r.most in
    omega arith

pub loop-attribute-preserved : goal.loop-attribute-preserved
loop-attribute-preserved c =
    let g = rw c.in-Ok-Some.field-0-is at c.in-Ok-Some.ensures.answer in
    elim c.else-attribute-eq-ATTRIBUTE_LIST.branch [
      | listed w ↦ rw w.found-is
          (list_taken _ _ _ _ _ _ c.loop-attribute.invariant _ g w.if-attribute-eq-ATTRIBUTE_LIST.true _ _
          (record { same = w.in_ok-put_list.ensures.hazards; whole = w.in_ok-put_list.ensures.whole })
          w.if-not-branch.false)
      | other w ↦ rw w.found-is
          (other_passed _ _ _ _ _ _ c.loop-attribute.invariant _ g w.if-attribute-eq-ATTRIBUTE_LIST.false)
    ]

pub returns-in-Ok-None : goal.returns-in-Ok-None
returns-in-Ok-None c =
    let g = rw c.in-Ok-None.field-0-is at c.in-Ok-None.ensures.answer in
    walk_ended _ _ _ _ _ _ c.loop-attribute.invariant g

pub returns-in-Err : goal.returns-in-Err
returns-in-Err c =
    walk_refused _ _ _ _ _ _ c.loop-attribute.invariant _ c.in-Err.ensures.answer
