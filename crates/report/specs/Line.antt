-- RULES 18.9, 18.10: the text of a report's lines.
use Rattle.std.specs.Prelude.{ℕ, List, [], ◌∷◌, ◌++◌}
use Rattle.fields.specs.Told.{number_of}
use Rattle.record.specs.declared.layout.RecordHeader.{RecordHeader}
use Rattle.text.specs.Decimal.{words}
use Rattle.lines.specs.Line as listing
use Rattle.report.specs.declared.line.State.{State}
use Rattle.report.specs.declared.line.State.TheVariants as state
use Rattle.report.specs.declared.line.Line.{Line}
use Rattle.report.specs.declared.line.Line.TheVariants as line

abbrev pub state_text : State → List ℕ
state_text state.Used = words " used" []
state_text state.Free = words " free" []
state_text (state.Refused c) = words " refused" (number_of c ∷ [])

abbrev pub header_text : RecordHeader → List ℕ
header_text h = words "header sequence" (h.sequence ∷ []) ++ words " links" (h.links ∷ [])
    ++ words " first" (h.first_attribute ∷ []) ++ words " flags" (h.flags ∷ [])
    ++ words " used" (h.used ∷ []) ++ words " allocated" (h.allocated ∷ [])

abbrev pub line_text : Line → List ℕ
line_text (line.Listed l) = listing.line_text l
line_text (line.Row n place s) = words "row" (n.0 ∷ place ∷ []) ++ state_text s ++ listing.newline
line_text (line.Rows k) = words "end rows" (k ∷ []) ++ listing.newline
line_text (line.Header h) = header_text h ++ listing.newline
line_text line.End = words "end" [] ++ listing.newline
line_text (line.Stopped c) = words "stopped" (number_of c ∷ []) ++ listing.newline
line_text (line.Refused c) = words "record refused" (number_of c ∷ []) ++ listing.newline
