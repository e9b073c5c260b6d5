use Rattle.parts.proofs.Rooms.{room_suffices}
use Rattle.parts.proofs.laws.room_suffices.Goals as goal

pub returns : goal.returns
returns c = room_suffices
