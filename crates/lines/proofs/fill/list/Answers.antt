-- The page is a front of the listing, and all of it where there is no more.
use Rattle.std.proofs.Common.{ap, ◌∙◌}
use Rattle.lines.specs.Line.{lines_text}
use Rattle.lines.proofs.Whole.{nothing_left}
use Rattle.lines.proofs.fill.list.Goals as goal

pub returns-clause-front : goal.returns-clause-front
returns-clause-front c = (_, c.fill-end.ensures.none_lost ∙ ap lines_text (c.of_any-lines.ensures _))

pub returns-clause-whole : goal.returns-clause-whole
returns-clause-whole c =
    nothing_left _ _ _ _ (c.fill-end.ensures.none_lost ∙ ap lines_text (c.of_any-lines.ensures _)) (c.is_done.ensures _)
