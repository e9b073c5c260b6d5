-- What each step read is paid by what it left behind: by `entry_room`, and arithmetic.
use Rattle.std.proofs.Common.{rules, arith, ◌+◌, sym, ap, ◌∙◌, length-set}
use Rattle.fields.specs.Told.{told, told_report}
use Rattle.items.proofs.Steps.{entry_room}
use Rattle.parts.proofs.Steps.{parts_missed, parts_taken, parts_ended, parts_refused, parts_other, parts_on}
use Rattle.parts.proofs.fill_inside.Goals as goal

pub overflow_add-at : goal.overflow_add-at
overflow_add-at c =
    let w = entry_room _ _ c.entries.at _ c.entries.invariant.stands in let x = w.most in
    let y = c.entries.invariant.lies.most in let z = c.args.file.now.base.most in
    omega arith

pub slice_bounds-rest-count : goal.slice_bounds-rest-count
slice_bounds-rest-count c = (entry_room _ _ c.entries.at _ c.entries.invariant.stands).most

pub slice_bounds-rest-start : goal.slice_bounds-rest-start
slice_bounds-rest-start c =
    let w = entry_room _ _ c.entries.at _ c.entries.invariant.stands in let x = w.most in
    let y = c.entries.invariant.lies.most in
    search (rules, arith)

pub entries-smaller : goal.entries-smaller
entries-smaller c =
    let w = entry_room _ _ c.entries.at _ c.entries.invariant.stands in let x = w.least in let y = w.most in
    omega arith

pub returns-then-count-list-clause-few : goal.returns-then-count-list-clause-few
returns-then-count-list-clause-few c =
    let w = entry_room _ _ c.entries.at _ c.entries.invariant.stands in let x = w.least in let y = w.most in
    omega (arith, c.entries.invariant.paid)

pub returns-in-Err-clause-few : goal.returns-in-Err-clause-few
returns-in-Err-clause-few c =
    let w = entry_room _ _ c.entries.at _ c.entries.invariant.stands in let x = w.least in let y = w.most in
    let f = c.part_by-found.ensures.few in let z = c.args.file.now.base.most in
    omega (arith, c.entries.invariant.paid)

pub returns-in-Err-clause-parts : goal.returns-in-Err-clause-parts
returns-in-Err-clause-parts c =
    let full = c.if-count-list.false in let s = c.entries.invariant.size in let m = c.entries.invariant.room in
    parts_missed _ _ _ _ _ _ _ _ _ _ c.entries.invariant.same
    (omega arith) (told_report c.part_by-found.result) c.part_by-found.ensures.answer _ (sym (ap told c.in-Err.is))

pub entries-preserved : goal.entries-preserved
entries-preserved c =
    let w = entry_room _ _ c.entries.at _ c.entries.invariant.stands in let x = w.least in let y = w.most in
    let u = c.entries.invariant.lies.order in let v = c.entries.invariant.lies.most in
    let f = c.part_by-found.ensures.few in let z = c.args.file.now.base.most in
    let s = c.entries.invariant.size in let m = c.entries.invariant.room in let full = c.if-count-list.false in
    let g = rw c.in-Ok-Some.field-0-is at c.in-Ok-Some.ensures.answer in
    let t = parts_taken _ _ _ _ _ _ _ _ _ _ c.entries.invariant.same
    (omega arith) (told_report c.part_by-found.result) c.part_by-found.ensures.answer _ (sym (ap told c.in-Ok.is)) in
    record {
      same = parts_on _ _ _ _ _ (record { from = c.entries.at.from + c.entries.e.length; to = c.entries.at.to })
          _ _ _ t _ g _ (rw c.in-Ok-Some.field-0-is at c.in-Ok-Some.ensures.name)
          (sym c.if-not-is_continued_by.ensures) _ (omega arith);
      stands = g;
      lies = record { order = omega arith; most = omega arith };
      room = omega arith;
      size = length-set _ _ _ ∙ s;
      paid = omega (arith, c.entries.invariant.paid);
    }

pub returns-in-Ok-None-clause-parts : goal.returns-in-Ok-None-clause-parts
returns-in-Ok-None-clause-parts c =
    let full = c.if-count-list.false in let s = c.entries.invariant.size in let m = c.entries.invariant.room in
    let t = parts_taken _ _ _ _ _ _ _ _ _ _ c.entries.invariant.same
    (omega arith) (told_report c.part_by-found.result) c.part_by-found.ensures.answer _ (sym (ap told c.in-Ok.is)) in
    parts_ended _ _ _ _ _ (record { from = c.entries.at.from + c.entries.e.length; to = c.entries.at.to })
    _ _ _ t (rw c.in-Ok-None.field-0-is at c.in-Ok-None.ensures.answer)

pub returns-in-Err-named-clause-parts : goal.returns-in-Err-named-clause-parts
returns-in-Err-named-clause-parts c =
    let full = c.if-count-list.false in let s = c.entries.invariant.size in let m = c.entries.invariant.room in
    let t = parts_taken _ _ _ _ _ _ _ _ _ _ c.entries.invariant.same
    (omega arith) (told_report c.part_by-found.result) c.part_by-found.ensures.answer _ (sym (ap told c.in-Ok.is)) in
    parts_refused _ _ _ _ _ (record { from = c.entries.at.from + c.entries.e.length; to = c.entries.at.to })
    _ _ _ t _ c.in-Err-named.ensures.answer

pub returns-then-not-is_continued_by-clause-parts : goal.returns-then-not-is_continued_by-clause-parts
returns-then-not-is_continued_by-clause-parts c =
    let full = c.if-count-list.false in let s = c.entries.invariant.size in let m = c.entries.invariant.room in
    let t = parts_taken _ _ _ _ _ _ _ _ _ _ c.entries.invariant.same
    (omega arith) (told_report c.part_by-found.result) c.part_by-found.ensures.answer _ (sym (ap told c.in-Ok.is)) in
    parts_other _ _ _ _ _ (record { from = c.entries.at.from + c.entries.e.length; to = c.entries.at.to })
    _ _ _ t _ (rw c.in-Ok-Some.field-0-is at c.in-Ok-Some.ensures.answer) _
    (rw c.in-Ok-Some.field-0-is at c.in-Ok-Some.ensures.name) (sym c.if-not-is_continued_by.ensures)

pub returns-in-Ok-None-clause-few : goal.returns-in-Ok-None-clause-few
returns-in-Ok-None-clause-few c =
    let w = entry_room _ _ c.entries.at _ c.entries.invariant.stands in let x = w.least in let y = w.most in
    let f = c.part_by-found.ensures.few in let z = c.args.file.now.base.most in
    omega (arith, c.entries.invariant.paid)

pub returns-in-Err-named-clause-few : goal.returns-in-Err-named-clause-few
returns-in-Err-named-clause-few c =
    let w = entry_room _ _ c.entries.at _ c.entries.invariant.stands in let x = w.least in let y = w.most in
    let f = c.part_by-found.ensures.few in let z = c.args.file.now.base.most in
    omega (arith, c.entries.invariant.paid)

pub returns-then-not-is_continued_by-clause-few : goal.returns-then-not-is_continued_by-clause-few
returns-then-not-is_continued_by-clause-few c =
    let w = entry_room _ _ c.entries.at _ c.entries.invariant.stands in let x = w.least in let y = w.most in
    let f = c.part_by-found.ensures.few in let z = c.args.file.now.base.most in
    omega (arith, c.entries.invariant.paid)
