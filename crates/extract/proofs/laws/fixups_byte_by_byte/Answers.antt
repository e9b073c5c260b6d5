use Rattle.extract.proofs.laws.fixups_byte_by_byte.Goals as goal
use Rattle.extract.proofs.Fixups.{arrays_are_clear, clear_arrays_are_good, pairs_are_replaced}

pub returns-clause-clear : goal.returns-clause-clear
returns-clause-clear c = arrays_are_clear

pub returns-clause-good : goal.returns-clause-good
returns-clause-good c = clear_arrays_are_good

pub returns-clause-replaced : goal.returns-clause-replaced
returns-clause-replaced c = pairs_are_replaced
