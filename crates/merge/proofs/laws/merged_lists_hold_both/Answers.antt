use Rattle.merge.proofs.Rows.{merged_rises}
use Rattle.merge.proofs.Finds.{record_merged}
use Rattle.merge.proofs.laws.merged_lists_hold_both.Goals as goal

pub returns-clause-rise : goal.returns-clause-rise
returns-clause-rise c = merged_rises 0

pub returns-clause-hold : goal.returns-clause-hold
returns-clause-hold c = record_merged
