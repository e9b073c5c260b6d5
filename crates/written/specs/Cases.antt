-- RULES 20: both sides of each limit of a table that is written.
use Rattle.std.specs.Prelude.{◌≡◌, [], ◌∷◌, map}
use Rattle.fields.specs.Answer.{Outcome, gives, refuses, refusal}
use Rattle.fields.specs.declared.Cause.{Cause}
use Rattle.fields.specs.declared.Cause.TheVariants.{TooManyRows, OutputShort}
use Rattle.written.specs.Refused.{rows_checked, room_checked}

-- record 0, place 0
abbrev pub refused_by : Cause → Outcome Unit
refused_by c = refuses (refusal c (record { 0 = 0 }) 0)

abbrev pub accepted : Outcome Unit
accepted = gives tt

-- 0 rows, 4,096 and 4,097
abbrev pub RowLimits : Type 0
RowLimits =
    map rows_checked (0 ∷ 4096 ∷ 4097 ∷ []) ≡ accepted ∷ accepted ∷ refused_by TooManyRows ∷ []

-- two rows of 512 bytes take 1,068 bytes; a table of no rows takes 20
abbrev pub RoomLimits : Type 0
RoomLimits =
    map (room_checked 512 2) (1067 ∷ 1068 ∷ 1069 ∷ []) ≡ refused_by OutputShort ∷ accepted ∷ accepted ∷ []

abbrev pub EmptyRoomLimits : Type 0
EmptyRoomLimits = map (room_checked 4096 0) (19 ∷ 20 ∷ []) ≡ refused_by OutputShort ∷ accepted ∷ []
