-- The failure is the one that was found.
use Rattle.command.proofs.merge_message.MergeMessageDisplay.fmt.Goals as goal

pub returns-in-Sizes-clause-writes : goal.returns-in-Sizes-clause-writes
returns-in-Sizes-clause-writes g c = rw c.in-Sizes.is c.write-in-Sizes.ensures.writes
