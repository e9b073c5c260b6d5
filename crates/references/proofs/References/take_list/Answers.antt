-- Each entry takes its room from the list, and the list from its attribute.
use Rattle.std.proofs.Common.{rules, arith, ◌+◌}
use Rattle.std.proofs.lemmas.Result.{err_from_is_err_and}
use Rattle.items.proofs.Steps.{list_room}
use Rattle.references.proofs.Room.{list_within, entry_takes}
use Rattle.references.proofs.Steps.{list_opened, list_barred, entry_taken, entries_ended, entry_refused}
use Rattle.references.proofs.References.take_list.Goals as goal

pub returns-in_err-list-clause-told : goal.returns-in_err-list-clause-told
returns-in_err-list-clause-told c =
    let p = err_from_is_err_and c.from_residual.result c.from_residual.ensures.1 in
    rw (p.1, p.2) (list_barred _ _ _ _ _ c.in_err-list.ensures)

pub overflow_add-to : goal.overflow_add-to
overflow_add-to c =
    let r = list_room _ _ _ _ c.args.holder.now.inside c.in_ok-list.ensures in let x = r.most in
    let z = c.args.holder.now.within.most in
    omega arith

pub loop-entry-init : goal.loop-entry-init
loop-entry-init c =
    let w = list_within _ _ _ _ c.in_ok-list.ensures in let x = w.least in
    record { same = list_opened _ _ _ _ _ c.in_ok-list.ensures; room = omega arith; reach = omega arith }

pub slice_bounds-header-end : goal.slice_bounds-header-end
slice_bounds-header-end c =
    let r = list_room _ _ _ _ c.args.holder.now.inside c.in_ok-list.ensures in let x = r.most in
    let y = c.loop-entry.invariant.reach in
    search (rules, arith)

pub returns-in_err-entry-clause-told : goal.returns-in_err-entry-clause-told
returns-in_err-entry-clause-told c =
    let p = err_from_is_err_and c.from_residual-in_err-entry.result c.from_residual-in_err-entry.ensures.1 in
    rw (p.1, p.2) (entry_refused _ _ _ _ _ c.loop-entry.invariant.same _ c.in_err-entry.ensures)

pub returns-in_err-entry-clause-room : goal.returns-in_err-entry-clause-room
returns-in_err-entry-clause-room c =
    let w = list_within _ _ _ _ c.in_ok-list.ensures in let x = w.most in
    let i = c.loop-entry.invariant.room in let r = c.loop-entry.invariant.reach in
    omega arith

pub add-requires : goal.add-requires
add-requires c =
    let t = entry_takes _ _ (c.in_ok-list.list.from + c.in_ok-list.list.bytes) c.loop-entry.at _
    (rw c.in-Some.is at c.in_ok-entry.ensures) in
    let x = t.least in let y = t.most in
    let r = list_room _ _ _ _ c.args.holder.now.inside c.in_ok-list.ensures in let u = r.most in
    let z = c.args.holder.now.within.most in
    let i = c.loop-entry.invariant.room in
    omega arith

pub overflow_add-at : goal.overflow_add-at
overflow_add-at c =
    let t = entry_takes _ _ (c.in_ok-list.list.from + c.in_ok-list.list.bytes) c.loop-entry.at _
    (rw c.in-Some.is at c.in_ok-entry.ensures) in let y = t.most in
    let r = list_room _ _ _ _ c.args.holder.now.inside c.in_ok-list.ensures in let u = r.most in
    let z = c.args.holder.now.within.most in
    omega arith

pub loop-entry-smaller : goal.loop-entry-smaller
loop-entry-smaller c =
    let t = entry_takes _ _ (c.in_ok-list.list.from + c.in_ok-list.list.bytes) c.loop-entry.at _
    (rw c.in-Some.is at c.in_ok-entry.ensures) in
    let x = t.least in let y = t.most in
    omega arith

pub loop-entry-preserved : goal.loop-entry-preserved
loop-entry-preserved c =
    let g = rw c.in-Some.is at c.in_ok-entry.ensures in
    let t = entry_takes _ _ (c.in_ok-list.list.from + c.in_ok-list.list.bytes) c.loop-entry.at _ g in
    let x = t.least in let y = t.most in
    let i = c.loop-entry.invariant.room in let k = c.add.ensures.count in
    record {
      same = rw c.add.ensures.numbers (entry_taken _ _ _ _ _ c.loop-entry.invariant.same _ g);
      room = omega arith;
      reach = omega arith;
    }

pub returns-clause-told : goal.returns-clause-told
returns-clause-told c = let h = c.in_ok-entry.ensures in let i = c.in_default.is in
    entries_ended _ _ _ _ _ c.loop-entry.invariant.same (rw i at h)

pub returns-clause-room : goal.returns-clause-room
returns-clause-room c =
    let w = list_within _ _ _ _ c.in_ok-list.ensures in let x = w.most in
    let i = c.loop-entry.invariant.room in let r = c.loop-entry.invariant.reach in
    omega arith
