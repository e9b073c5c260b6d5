-- Nothing is read where the size is asked for.
use Rattle.std.proofs.Common.{◌∙◌, sym}
use Rattle.command.proofs.Making.{no_front}
use Rattle.command.proofs.make.front_for.Goals as goal

pub returns-then-is_some-clause-ok : goal.returns-then-is_some-clause-ok
returns-then-is_some-clause-ok g c =
    rw c.new.ensures.items (no_front c.args.asked _ (sym c.is_some.ensures ∙ c.if-is_some.true))
