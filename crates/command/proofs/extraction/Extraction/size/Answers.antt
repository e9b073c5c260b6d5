-- A size that is told is one that records may have.
use Rattle.std.proofs.Common.{sym}
use Rattle.command.proofs.Sizes.{good_front}
use Rattle.command.proofs.extraction.Extraction.size.Goals as goal

pub returns-in-Some-size_told-clause-good : goal.returns-in-Some-size_told-clause-good
returns-in-Some-size_told-clause-good c =
    good_front c.args.front.now c.in-Some-size_told.size (sym c.in-Some-size_told.ensures)
