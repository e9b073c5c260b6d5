use Rattle.std.proofs.Common.{sym, ◌∙◌}
use Rattle.filename.proofs.Among.{sought_found}
use Rattle.filename.proofs.find.find_name.Goals as goal

pub returns-then-is_named : goal.returns-then-is_named
returns-then-is_named c =
    sym (c.loop-answer.invariant
    ∙ sought_found _ _ _ _ _ _ _ c.in-Some.ensures.steps _ c.in-Ok.is (sym c.is_named.ensures ∙ c.if-is_named.true))
