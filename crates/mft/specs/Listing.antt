-- RULES 24.6, 25.3, 26.4: what is told of a record by a lookup: the line in front, its listing, and its hazards.
use Rattle.std.specs.Prelude.{ℕ, ◌≡◌, List, [], ◌++◌, map, slice_get, Option, Some, None}
use Rattle.std.specs.Io.KnownBytes.{Appends, Keeps}
use Rattle.fields.specs.Pick.{pick}
use Rattle.fields.specs.Answer.{Outcome, gives, refuses}
use Rattle.fields.specs.declared.RecordNumber.{RecordNumber}
use Rattle.record.specs.Open.{Lent, open_in}
use Rattle.lines.specs.Listing.{most_parts}
use Rattle.lines.specs.declared.ending.Ending.{Ending}
use Rattle.report.specs.Form.{lines_text}
use Rattle.report.specs.Ending.{ending_of}
use Rattle.report.specs.declared.line.Line.{Line}
use Rattle.report.specs.declared.line.Line.TheVariants.{Listed}
use Rattle.agreement.specs.Door.{listing_by}
use Rattle.segments.specs.Hazards.{hazards_of}
use Rattle.segments.specs.declared.find.Hazard.{Hazard}
use Rattle.filename.specs.Names.{names_of}
use Rattle.naming.specs.Line.{file_line}
use Rattle.command.specs.Reason.{ending_reason}
use Rattle.command.specs.declared.asked.Asked.TheVariants as asked
use Rattle.command.specs.declared.reason.Reason.{Reason}
use Rattle.mft.specs.declared.listing.Heard.{Heard}
use Rattle.mft.specs.declared.manner.Manner.{Manner}

-- a record with its bytes and its number, where records have so many bytes, and what is looked up
module _ (size : ℕ) (b : List ℕ) (n : RecordNumber) (peek : RecordNumber → Option (List ℕ)) where
  abbrev pub lines_by : List Line
  lines_by = map (λ l. Listed l) (listing_by most_parts peek size b n)

  -- its name and its hazards, where it opens
  abbrev pub name_in : Outcome Lent → Option (List ℕ)
  name_in (gives r) = slice_get (names_of r.bytes r.number peek) 0
  name_in (refuses r) = None

  abbrev pub hazards_in : Outcome Lent → List Hazard
  hazards_in (gives r) = hazards_of r.bytes r.number peek
  hazards_in (refuses r) = []

  abbrev pub name_by : Manner → Option (List ℕ)
  name_by m = pick m.named (name_in (open_in b n size)) None

  abbrev pub hazards_by : List Hazard
  hazards_by = hazards_in (open_in b n size)

  -- what is written of it
  abbrev pub text_by : Manner → List ℕ
  text_by m = file_line m.form n (name_by m) ++ lines_text m.form lines_by

  -- all of it was written, its hazards are told, and the reason is that of how its lines end
  abbrev pub Tells : Manner → Option (List ℕ) → Option (List ℕ) → Heard → Type 0
  Tells m old new heard =
      Appends old new (text_by m) × (heard.hazards.items ≡ hazards_by)
      × ((t : List ℕ) × ((e : Ending) × (ending_of lines_by ≡ Some e)
      × (heard.reason ≡ ending_reason (asked.Listing None) t e)))

-- nothing was written, for a reason
abbrev pub Skips : (Reason → Type 0) → Option (List ℕ) → Option (List ℕ) → Heard → Type 0
Skips IsWhy old new heard =
    Keeps old new × (heard.hazards.items ≡ []) × ((r : Reason) × (heard.reason ≡ Some r) × IsWhy r)
