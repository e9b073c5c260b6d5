-- What is made of what was read is made of the inputs.
use Rattle.command.proofs.MergeFronts.{merges_both}
use Rattle.command.proofs.merging.merge_tables.Goals as goal

pub returns : goal.returns
returns c = λ s t enough near.
    merges_both c.join.result c.args.first.now c.args.second.now s t enough near c.join.ensures
