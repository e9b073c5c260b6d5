use Rattle.parts.proofs.Puts.{parts_in_front}
use Rattle.parts.proofs.Rooms.{parts_fit}
use Rattle.parts.proofs.laws.parts_stand_in_front.Goals as goal

pub returns-clause-front : goal.returns-clause-front
returns-clause-front c = parts_in_front

pub returns-clause-fit : goal.returns-clause-fit
returns-clause-fit c = parts_fit
