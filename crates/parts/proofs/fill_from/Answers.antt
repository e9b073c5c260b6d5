use Rattle.std.proofs.Common.{arith, sym, ap}
use Rattle.items.proofs.Steps.{entry_room}
use Rattle.parts.proofs.Steps.{front_given}
use Rattle.parts.specs.declared.Filled.{Filled}
use Rattle.parts.proofs.fill_from.Goals as goal

pub returns-then-not-known_type-clause-few : goal.returns-then-not-known_type-clause-few
returns-then-not-known_type-clause-few c =
    let w = entry_room _ _ c.args.from _ (rw c.in-Ok-Some.field-0-is at c.in-Ok-Some.ensures.answer) in
    let x = w.least in let y = w.most in
    omega (arith, ap (λ (f : Filled). f.reads) c.none-then-not-known_type.ensures)

pub returns-clause-parts : goal.returns-clause-parts
returns-clause-parts c =
    front_given _ _ _ _ _ _ _ (rw c.in-Ok-Some.field-0-is at c.in-Ok-Some.ensures.answer) _
    (rw c.in-Ok-Some.field-0-is at c.in-Ok-Some.ensures.name) (sym c.if-not-known_type.ensures) _ _ _ _
    c.fill_inside-filled.ensures.parts
