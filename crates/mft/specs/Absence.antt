-- Why a record of a raw $MFT is not there to be listed.
use Rattle.std.specs.Prelude.{ℕ, List, Bool, true, false, Option, Some, None}
use Rattle.extract.specs.Fixup.{Verdict, left_out, refused, sound, verdict_of}
use Rattle.command.specs.declared.absence.Absence.{Absence}
use Rattle.command.specs.declared.absence.Absence.TheVariants.{Missing, NotFile, Refused}

-- by what becomes of it (RULES 23.3 to 23.5): a sound one is there
abbrev pub absence_by : Verdict → Option Absence
absence_by left_out = Some NotFile
absence_by (refused c) = Some (Refused c)
absence_by (sound b) = None

-- of a record that was read whole, or not
abbrev pub absence_of : Bool → List ℕ → Option Absence
absence_of true raw = absence_by (verdict_of raw)
absence_of false raw = Some Missing
