-- Where raw records that are read one behind another end.
use Rattle.std.specs.Prelude.{ℕ, ◌≡◌, ◌⊎◌, ◌<◌, ◌≤◌, List, length, Option, IfSome}
use Rattle.fields.specs.declared.RecordNumber.{RecordNumber}
use Rattle.table.specs.Check.{number_end}
use Rattle.table.specs.Layout.{header_size}
use Rattle.command.specs.Read.{IsUnread}
use Rattle.command.specs.declared.absence.Absence.TheVariants.{BrokenOff}
use Rattle.command.specs.declared.reason.Reason.{Reason}
use Rattle.command.specs.declared.reason.Reason.TheVariants.{Absent, Unmade}
use Rattle.command.specs.declared.unmade.Unmade.TheVariants.{RowNumber}

-- why none is read, of so many bytes, of what is left: it can't be read, the input ends within it, or no table can have
-- its number
abbrev pub IsEnd : Option (List ℕ) → ℕ → RecordNumber → Reason → Type 0
IsEnd left size n r =
    IsUnread r
    ⊎ (((r ≡ Absent n BrokenOff) × IfSome left (λ s. (0 < length s) × (length s < size)))
    ⊎ ((r ≡ Unmade (RowNumber header_size)) × (number_end ≤ n.0) × IfSome left (λ s. size ≤ length s)))
