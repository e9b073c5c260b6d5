use Rattle.bound.proofs.Lists.{every_step, every_read, every_entry}
use Rattle.bound.proofs.lists_are_told_apart.Goals as goal

pub returns-clause-step : goal.returns-clause-step
returns-clause-step c = every_step

pub returns-clause-read : goal.returns-clause-read
returns-clause-read c = every_read

pub returns-clause-entry : goal.returns-clause-entry
returns-clause-entry c = every_entry
