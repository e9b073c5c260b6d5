-- Each return, by what the calls before it said.
use Rattle.std.proofs.Common.{ap}
use Rattle.table.specs.declared.Table.{Table}
use Rattle.bound.proofs.Openings.{refused, unbased, base_refused, reads}
use Rattle.bound.proofs.reads_of_bytes.Goals as goal

pub returns-in_default : goal.returns-in_default
returns-in_default c = refused _ _ c.in_default.ensures.answer

pub returns-in_default-base : goal.returns-in_default-base
returns-in_default-base c = unbased _ _ _ (record { passed = c.in-Ok.ensures.answer; same = c.in-Ok.ensures.bytes })
    c.in_default-base.ensures

pub returns-in-Ok-open : goal.returns-in-Ok-open
returns-in-Ok-open c = reads _ _ _ (record { passed = c.in-Ok.ensures.answer; same = c.in-Ok.ensures.bytes }) _
    c.in-Some.ensures c.in-Ok-open.file c.in-Ok-open.ensures.answer
    (ap (λ (x : Table). x.bytes.now) c.in-Ok-open.ensures.table) _ c.reads_of.ensures

pub returns-in-Err : goal.returns-in-Err
returns-in-Err c = base_refused _ _ _ (record { passed = c.in-Ok.ensures.answer; same = c.in-Ok.ensures.bytes }) _
    c.in-Some.ensures _ c.in-Err.ensures.answer
