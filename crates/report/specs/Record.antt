-- RULES 18.10, 18.12: one record, as the raw walk gives it.
use Rattle.std.specs.Prelude.{ℕ, List, [], ◌∷◌, ◌++◌, map, length}
use Rattle.fields.specs.Answer.{Outcome, gives, refuses}
use Rattle.fields.specs.declared.RecordNumber.{RecordNumber}
use Rattle.record.specs.Header.{header_of}
use Rattle.record.specs.Open.{Lent, open_of}
use Rattle.record.specs.Walk.{attributes_of}
use Rattle.record.specs.declared.layout.Attribute.{Attribute}
use Rattle.lines.specs.Raw.{raw_line, raw_runs}
use Rattle.lines.specs.declared.line.Line.TheVariants as listing
use Rattle.report.specs.declared.line.Line.{Line}
use Rattle.report.specs.declared.line.Line.TheVariants as line

-- a line for each attribute, the runs of its value under it, and how the walk ends
unfoldable pub walk_lines : List ℕ → RecordNumber → List (Outcome Attribute) → List Line
walk_lines s n [] = line.End ∷ []
walk_lines s n (gives h ∷ hs) =
    line.Listed (raw_line s n h) ∷ (map (λ x. line.Listed x) (raw_runs s n h) ++ walk_lines s n hs)
walk_lines s n (refuses r ∷ hs) = line.Stopped r.cause ∷ []

-- number and length, the header's fields, and the attributes; or what refuses the record
unfoldable pub record_lines : Outcome Lent → List Line
record_lines (gives r) =
    line.Listed (listing.Record r.number (length r.bytes))
    ∷ line.Header (header_of r.bytes)
    ∷ walk_lines r.bytes r.number (attributes_of r.bytes r.number)
record_lines (refuses r) = line.Refused r.cause ∷ []

-- of any bytes, lent with a number
abbrev pub record_report : List ℕ → RecordNumber → List Line
record_report s n = record_lines (open_of s n)
