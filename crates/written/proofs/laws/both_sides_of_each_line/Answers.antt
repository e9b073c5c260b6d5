use Rattle.written.proofs.Cases.{row_limits, room_limits, empty_room_limits}
use Rattle.written.proofs.laws.both_sides_of_each_line.Goals as goal

pub returns-clause-rows : goal.returns-clause-rows
returns-clause-rows c = row_limits

pub returns-clause-room : goal.returns-clause-room
returns-clause-room c = room_limits

pub returns-clause-empty : goal.returns-clause-empty
returns-clause-empty c = empty_room_limits
