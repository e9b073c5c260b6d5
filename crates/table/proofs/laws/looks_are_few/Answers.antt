use Rattle.table.proofs.Looks.{few_by_log, few_of_none, few_of_most}
use Rattle.table.proofs.laws.looks_are_few.Goals as goal

pub returns-clause-log : goal.returns-clause-log
returns-clause-log c = few_by_log

pub returns-clause-none : goal.returns-clause-none
returns-clause-none c = few_of_none

pub returns-clause-most : goal.returns-clause-most
returns-clause-most c = few_of_most
