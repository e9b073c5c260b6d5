use Rattle.parts.proofs.Again.{parts_are_found_again}
use Rattle.parts.proofs.laws.parts_are_found_again.Goals as goal

pub returns : goal.returns
returns c = parts_are_found_again
