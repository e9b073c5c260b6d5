use Rattle.merge.proofs.Reports.{room_enough}
use Rattle.merge.proofs.laws.rooms_are_enough.Goals as goal

pub returns : goal.returns
returns c = room_enough
