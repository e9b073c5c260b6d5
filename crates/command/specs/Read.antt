-- How much of an input is read.
use Rattle.std.specs.Prelude.{ℕ, ◌≡◌, ◌≤◌, ◌⊎◌, List, [], ◌++◌, length, ⊤}
use Rattle.command.specs.Asked.{reach_for}
use Rattle.command.specs.declared.asked.Asked.{Asked}
use Rattle.command.specs.declared.reason.Reason.{Reason}
use Rattle.command.specs.declared.reason.Reason.TheVariants.{
  Stopped,
  Empty,
  RawRecord,
  NoTable,
  NoBaseRow,
  NoRecord,
  Unfit,
  SizeUntold,
  Unmade,
  RecordRefused,
  Absent,
  Lost,
  Unlisted,
  Unsearched,
  Unreadable,
  OutOfMemory,
}

-- a front of the input, behind which nothing matters to what is asked, or all of it
abbrev pub IsEnough : Asked → List ℕ → List ℕ → Type 0
IsEnough a front bytes =
    (rest : List ℕ) × (bytes ≡ front ++ rest) × ((reach_for a front ≤ length front) ⊎ (rest ≡ []))

-- a reason for which nothing is told, since the input is not there to be judged
abbrev pub IsUnread : Reason → Type 0
IsUnread (Unreadable error) = ⊤
IsUnread OutOfMemory = ⊤
IsUnread (Stopped cause) = ⊥
IsUnread Empty = ⊥
IsUnread RawRecord = ⊥
IsUnread (NoTable fault) = ⊥
IsUnread NoBaseRow = ⊥
IsUnread (NoRecord n) = ⊥
IsUnread (Unfit misfit cause) = ⊥
IsUnread SizeUntold = ⊥
IsUnread (Unmade why) = ⊥
IsUnread (RecordRefused first) = ⊥
IsUnread (Absent n why) = ⊥
IsUnread (Lost n of why) = ⊥
IsUnread (Unlisted n cause) = ⊥
IsUnread (Unsearched n cause) = ⊥
