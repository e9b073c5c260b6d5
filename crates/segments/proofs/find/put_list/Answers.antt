-- Each entry lies in its list, and the list in the record.
use Rattle.std.proofs.Common.{rules, arith, ◌+◌}
use Rattle.table.specs.Held.{record_of}
use Rattle.items.proofs.Steps.{list_room}
use Rattle.references.proofs.Room.{entry_takes}
use Rattle.segments.proofs.Steps.{list_opened, list_barred, entry_taken, entries_ended, entry_refused}
use Rattle.segments.proofs.find.put_list.Goals as goal

pub returns-in_default-clause-hazards : goal.returns-in_default-clause-hazards
returns-in_default-clause-hazards c =
    let e = rw c.in_default.is at c.list.ensures in
    (list_barred _ _ _ _ _ _ e).same

pub returns-in_default-clause-whole : goal.returns-in_default-clause-whole
returns-in_default-clause-whole c =
    let e = rw c.in_default.is at c.list.ensures in
    (list_barred _ _ (record_of c.args.file.now.table.bytes.now) c.args.found.now.items _ _ e).whole

pub overflow_add-to : goal.overflow_add-to
overflow_add-to c =
    let r = list_room _ _ _ _ c.requires c.in-Ok.ensures in let x = r.most in
    let z = c.args.file.now.base.most in
    omega arith

pub loop-entry-init : goal.loop-entry-init
loop-entry-init c = record { goes = list_opened _ _ _ _ _ _ c.in-Ok.ensures; reach = omega arith }

pub slice_bounds-header-end : goal.slice_bounds-header-end
slice_bounds-header-end c =
    let r = list_room _ _ _ _ c.requires c.in-Ok.ensures in let x = r.most in
    let y = c.loop-entry.invariant.reach in
    search (rules, arith)

pub put_entry-requires : goal.put_entry-requires
put_entry-requires c =
    let t = entry_takes _ _ (c.in-Ok.list.from + c.in-Ok.list.bytes) c.loop-entry.at _
    (rw c.in-Ok-Some.field-0-is at c.in-Ok-Some.ensures) in
    let x = t.least in let y = t.most in
    let r = list_room _ _ _ _ c.requires c.in-Ok.ensures in let u = r.most in
    omega arith

pub overflow_add-at : goal.overflow_add-at
overflow_add-at c =
    let t = entry_takes _ _ (c.in-Ok.list.from + c.in-Ok.list.bytes) c.loop-entry.at _
    (rw c.in-Ok-Some.field-0-is at c.in-Ok-Some.ensures) in
    let y = t.most in
    let r = list_room _ _ _ _ c.requires c.in-Ok.ensures in let u = r.most in
    let z = c.args.file.now.base.most in
    omega arith

pub loop-entry-smaller : goal.loop-entry-smaller
loop-entry-smaller c =
    let t = entry_takes _ _ (c.in-Ok.list.from + c.in-Ok.list.bytes) c.loop-entry.at _
    (rw c.in-Ok-Some.field-0-is at c.in-Ok-Some.ensures) in
    let x = t.least in let y = t.most in
    omega arith

pub loop-entry-preserved : goal.loop-entry-preserved
loop-entry-preserved c =
    let t = entry_takes _ _ (c.in-Ok.list.from + c.in-Ok.list.bytes) c.loop-entry.at _
    (rw c.in-Ok-Some.field-0-is at c.in-Ok-Some.ensures) in
    let y = t.most in
    record {
      goes = rw c.in_ok-put_entry.ensures
          (entry_taken _ _ _ _ _ _ _ _ c.loop-entry.invariant.goes _
          (rw c.in-Ok-Some.field-0-is at c.in-Ok-Some.ensures));
      reach = omega arith;
    }

pub returns-in-Ok-None-clause-hazards : goal.returns-in-Ok-None-clause-hazards
returns-in-Ok-None-clause-hazards c =
    (entries_ended _ _ _ _ _ _ _ _ c.loop-entry.invariant.goes
    (rw c.in-Ok-None.field-0-is at c.in-Ok-None.ensures)).same

pub returns-in-Ok-None-clause-whole : goal.returns-in-Ok-None-clause-whole
returns-in-Ok-None-clause-whole c =
    (entries_ended _ _ _ _ _ _ _ _ c.loop-entry.invariant.goes
    (rw c.in-Ok-None.field-0-is at c.in-Ok-None.ensures)).whole

pub returns-in-Err-clause-hazards : goal.returns-in-Err-clause-hazards
returns-in-Err-clause-hazards c =
    (entry_refused _ _ _ _ _ _ _ _ c.loop-entry.invariant.goes _ c.in-Err.ensures).same

pub returns-in-Err-clause-whole : goal.returns-in-Err-clause-whole
returns-in-Err-clause-whole c =
    (entry_refused _ _ _ _ _ _ _ _ c.loop-entry.invariant.goes _ c.in-Err.ensures).whole
