-- Where the records of a raw $MFT stand in its file: one behind another, from its front on.
use Rattle.std.specs.Prelude.{ℕ, ◌+◌, ◌-◌, ◌*◌, ◌&&◌, leb, Option, Some, None}
use Rattle.fields.specs.Pick.{pick}
use Rattle.fields.specs.declared.RecordNumber.{RecordNumber}
use Rattle.mft.specs.declared.layout.Layout.{Layout}

-- where the record with a number would stand, of those from the first on
abbrev pub place_of : Layout → RecordNumber → ℕ
place_of l n = l.size * (n.0 - l.first.0)

-- the same where it is one of them, and all of it is in the file
unfoldable pub place_in : Layout → RecordNumber → Option ℕ
place_in l n = pick (leb l.first.0 n.0 && leb (place_of l n + l.size) l.length) (Some (place_of l n)) None
