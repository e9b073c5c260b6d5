-- The checker computes what the definition gives of each case.
use Rattle.std.proofs.Common.{refl}
use Rattle.written.specs.Refused.{rows_checked, room_checked}
use Rattle.written.specs.Cases.{RowLimits, RoomLimits, EmptyRoomLimits}

pub row_limits : RowLimits
unfolding rows_checked
row_limits = refl

pub room_limits : RoomLimits
unfolding room_checked
room_limits = refl

pub empty_room_limits : EmptyRoomLimits
unfolding room_checked
empty_room_limits = refl
