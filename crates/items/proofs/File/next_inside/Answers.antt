-- What each step of the two loops read is paid by what it left behind: each by entry_room, raw_room or list_room, and
-- arithmetic.
use Rattle.std.proofs.Common.{arith, sym, ap}
use Rattle.items.specs.State.{left_in}
use Rattle.items.proofs.Steps.{entry_room, raw_room, list_room, entry_passed, raw_list}
use Rattle.items.proofs.File.next_inside.Goals as goal

pub overflow_add-at : goal.overflow_add-at
overflow_add-at c =
    let w = entry_room _ _ c.in-Some.list _ (rw c.in-Ok-Some.field-0-is at c.in-Ok-Some.ensures.answer) in
    let x = w.most in
    let l = rw c.in-Some.is at c.entries.invariant.lies in let y = l.most in
    let z = c.args.self.now.base.most in
    omega arith

pub entries-smaller : goal.entries-smaller
entries-smaller c =
    let w = entry_room _ _ c.in-Some.list _ (rw c.in-Ok-Some.field-0-is at c.in-Ok-Some.ensures.answer) in
    let x = w.least in let y = w.most in
    let q = ap left_in c.in-Some.is in
    omega arith

pub entries-preserved : goal.entries-preserved
entries-preserved c =
    let g = rw c.in-Ok-Some.field-0-is at c.in-Ok-Some.ensures.answer in
    let w = entry_room _ _ c.in-Some.list _ g in let x = w.least in let y = w.most in
    let l = rw c.in-Some.is at c.entries.invariant.lies in let u = l.order in let v = l.most in
    let q = ap left_in c.in-Some.is in
    record {
      same = entry_passed _ _ _ _ _ _ _ c.entries.invariant.same _ c.in-Some.is _ g _
          (rw c.in-Ok-Some.field-0-is at c.in-Ok-Some.ensures.name) (sym c.if-not-known_type.ensures)
          (sym c.if-passes_over.ensures);
      lies = record { order = omega arith; most = omega arith };
      paid = omega arith;
      less = omega arith;
    }

pub overflow_add-at-in-raw : goal.overflow_add-at-in-raw
overflow_add-at-in-raw c =
    let w = raw_room _ _ _ _ (rw c.in-Ok-Some-step.field-0-is at c.in-Ok-Some-step.ensures.answer) in let x = w.most
    in
    let z = c.args.self.now.base.most in
    omega arith

pub overflow_add-at-in-Ok-list : goal.overflow_add-at-in-Ok-list
overflow_add-at-in-Ok-list c =
    let z = c.args.self.now.base.most in
    let g = rw c.in-Ok-Some-step.field-0-is at c.in-Ok-Some-step.ensures.answer in
    let w = list_room _ _ _ _ (rw c.in-Ok-Some-step.field-0-is at c.in-Ok-Some-step.ensures.inside)
    c.in-Ok-list.ensures in let x = w.most in
    omega arith

pub raw-smaller : goal.raw-smaller
raw-smaller c =
    let z = c.args.self.now.base.most in
    let g = rw c.in-Ok-Some-step.field-0-is at c.in-Ok-Some-step.ensures.answer in
    let r = raw_room _ _ _ _ g in let a = r.least in let b = r.most in
    let w = list_room _ _ _ _ (rw c.in-Ok-Some-step.field-0-is at c.in-Ok-Some-step.ensures.inside)
    c.in-Ok-list.ensures in let x = w.short in
    let q = ap left_in c.in_default.is in
    omega arith

pub raw-preserved : goal.raw-preserved
raw-preserved c =
    let z = c.args.self.now.base.most in
    let g = rw c.in-Ok-Some-step.field-0-is at c.in-Ok-Some-step.ensures.answer in
    let r = raw_room _ _ _ _ g in let a = r.least in let b = r.most in
    let w = list_room _ _ _ _ (rw c.in-Ok-Some-step.field-0-is at c.in-Ok-Some-step.ensures.inside)
    c.in-Ok-list.ensures in let x = w.short in let y = w.most in
    let q = ap left_in c.in_default.is in
    record {
      same = raw_list _ _ _ _ _ _ _ c.entries.invariant.same c.in_default.is _ g _
          c.if-attribute-ne-ATTRIBUTE_LIST.false c.in-Ok-list.ensures;
      lies = record { order = omega arith; most = omega arith };
      paid = omega arith;
    }

pub returns-then-attribute-clause-lower : goal.returns-then-attribute-clause-lower
returns-then-attribute-clause-lower c =
    let w = entry_room _ _ c.in-Some.list _ (rw c.in-Ok-Some.field-0-is at c.in-Ok-Some.ensures.answer) in
    let x = w.least in let y = w.most in
    let q = ap left_in c.in-Some.is in
    omega arith

pub returns-else-attribute-clause-lower : goal.returns-else-attribute-clause-lower
returns-else-attribute-clause-lower c =
    let w = entry_room _ _ c.in-Some.list _ (rw c.in-Ok-Some.field-0-is at c.in-Ok-Some.ensures.answer) in
    let x = w.least in let y = w.most in
    let q = ap left_in c.in-Some.is in
    omega arith

pub returns-then-attribute-ne-ATTRIBUTE_LIST-clause-lower : goal.returns-then-attribute-ne-ATTRIBUTE_LIST-clause-lower
returns-then-attribute-ne-ATTRIBUTE_LIST-clause-lower c =
    let r = raw_room _ _ _ _ (rw c.in-Ok-Some-step.field-0-is at c.in-Ok-Some-step.ensures.answer) in let a = r.least
    in let b = r.most in
    omega arith

pub returns-then-not-known_type-clause-paid : goal.returns-then-not-known_type-clause-paid
returns-then-not-known_type-clause-paid c =
    let w = entry_room _ _ c.in-Some.list _ (rw c.in-Ok-Some.field-0-is at c.in-Ok-Some.ensures.answer) in
    let x = w.least in let y = w.most in
    let q = ap left_in c.in-Some.is in
    omega arith

pub returns-in-Err-answer-clause-paid : goal.returns-in-Err-answer-clause-paid
returns-in-Err-answer-clause-paid c =
    let w = entry_room _ _ c.in-Some.list _ (rw c.in-Ok-Some.field-0-is at c.in-Ok-Some.ensures.answer) in
    let x = w.least in let y = w.most in
    let q = ap left_in c.in-Some.is in let f = c.sought-found.ensures.few in
    omega arith

pub returns-then-attribute-clause-paid : goal.returns-then-attribute-clause-paid
returns-then-attribute-clause-paid c =
    let w = entry_room _ _ c.in-Some.list _ (rw c.in-Ok-Some.field-0-is at c.in-Ok-Some.ensures.answer) in
    let x = w.least in let y = w.most in
    let q = ap left_in c.in-Some.is in let f = c.sought-found.ensures.few in
    omega arith

pub returns-else-attribute-clause-paid : goal.returns-else-attribute-clause-paid
returns-else-attribute-clause-paid c =
    let w = entry_room _ _ c.in-Some.list _ (rw c.in-Ok-Some.field-0-is at c.in-Ok-Some.ensures.answer) in
    let x = w.least in let y = w.most in
    let q = ap left_in c.in-Some.is in let f = c.sought-found.ensures.few in
    omega arith

pub returns-then-attribute-ne-ATTRIBUTE_LIST-clause-paid : goal.returns-then-attribute-ne-ATTRIBUTE_LIST-clause-paid
returns-then-attribute-ne-ATTRIBUTE_LIST-clause-paid c =
    let r = raw_room _ _ _ _ (rw c.in-Ok-Some-step.field-0-is at c.in-Ok-Some-step.ensures.answer) in let a = r.least
    in let b = r.most in
    omega arith

pub returns-in-Err-list-clause-paid : goal.returns-in-Err-list-clause-paid
returns-in-Err-list-clause-paid c =
    let r = raw_room _ _ _ _ (rw c.in-Ok-Some-step.field-0-is at c.in-Ok-Some-step.ensures.answer) in let a = r.least
    in let b = r.most in
    omega arith
