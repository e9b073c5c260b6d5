-- RULES 18.11: a line as one object of JSON. Every key and every word is fixed, so that no string needs an escape.
use Rattle.std.specs.Prelude.{ℕ, List, [], ◌∷◌, ◌++◌, codes}
use Rattle.std.specs.Fmt.{decimal}
use Prim.Native.String.{String}
use Rattle.record.specs.declared.layout.RecordHeader.{RecordHeader}
use Rattle.parts.specs.declared.Part.{Part}
use Rattle.runs.specs.declared.run.Run.{Run}
use Rattle.runs.specs.declared.run.Run.TheVariants as runs
use Rattle.fields.specs.Told.{number_of}
use Rattle.fields.specs.declared.Cause.TheVariants.{NoRecord, BadTable}
use Rattle.lines.specs.declared.line.Name.{Name}
use Rattle.lines.specs.declared.line.Name.TheVariants as name
use Rattle.lines.specs.declared.line.Contents.{Contents}
use Rattle.lines.specs.declared.line.Contents.TheVariants as contents
use Rattle.lines.specs.declared.line.AttributeLine.{AttributeLine}
use Rattle.lines.specs.declared.line.Line as listing
use Rattle.lines.specs.declared.line.Line.TheVariants as listed
use Rattle.report.specs.declared.line.State.{State}
use Rattle.report.specs.declared.line.State.TheVariants as state
use Rattle.report.specs.declared.line.Line.{Line}
use Rattle.report.specs.declared.line.Line.TheVariants as line

-- `{"line":"WORD"`, then `,"KEY":NUMBER` and `,"KEY":"WORD"`, and in the end `}` and a newline
abbrev pub opened : String → List ℕ
opened w = 123 ∷ 34 ∷ codes "line" ++ (34 ∷ 58 ∷ 34 ∷ codes w ++ (34 ∷ []))

abbrev pub field : String → ℕ → List ℕ
field k n = 44 ∷ 34 ∷ codes k ++ (34 ∷ 58 ∷ decimal n)

abbrev pub word_field : String → String → List ℕ
word_field k w = 44 ∷ 34 ∷ codes k ++ (34 ∷ 58 ∷ 34 ∷ codes w ++ (34 ∷ []))

abbrev pub closed : List ℕ
closed = 125 ∷ 10 ∷ []

abbrev pub name_json : Name → List ℕ
name_json (name.At p) = field "name_offset" p.from ++ field "name_bytes" p.bytes
name_json (name.Refused c) = field "name_refused" (number_of c)

abbrev pub contents_json : Contents → List ℕ
contents_json (contents.Resident p) =
    word_field "value" "resident" ++ field "value_offset" p.from ++ field "value_bytes" p.bytes
contents_json (contents.Runs p size) =
    word_field "value" "runs" ++ field "value_offset" p.from ++ field "value_bytes" p.bytes ++ field "value_size" size
contents_json (contents.Refused c) = word_field "value" "refused" ++ field "value_refused" (number_of c)
contents_json (contents.Parts k size) = word_field "value" "parts" ++ field "value_parts" k ++ field "value_size" size
contents_json (contents.PartsRefused k c) =
    word_field "value" "parts" ++ field "value_parts" k ++ field "value_refused" (number_of c)

-- where an attribute stands, and what its first bytes say
abbrev pub place_json : AttributeLine → List ℕ
place_json a =
    opened "attr" ++ field "record" a.file.0 ++ field "offset" a.offset ++ field "type" a.ty
    ++ field "length" a.length ++ field "instance" a.instance

abbrev pub attribute_json : AttributeLine → List ℕ
attribute_json a = place_json a ++ name_json a.name ++ contents_json a.contents ++ closed

abbrev pub part_json : Part → List ℕ
part_json p =
    opened "part" ++ field "record" p.file.0 ++ field "offset" p.offset ++ field "vcn" p.lowest.0
    ++ field "runs_offset" p.runs.from ++ field "runs_bytes" p.runs.bytes ++ closed

abbrev pub run_json : Run → List ℕ
run_json (runs.Clusters s k) = opened "run" ++ field "start" s.0 ++ field "length" k ++ closed
run_json (runs.Hole k) = opened "hole" ++ field "length" k ++ closed

abbrev pub listed_json : listing.Line → List ℕ
listed_json (listed.Record n m) = opened "record" ++ field "number" n.0 ++ field "size" m ++ closed
listed_json (listed.Attribute a) = attribute_json a
listed_json (listed.Part p) = part_json p
listed_json (listed.Run r) = run_json r
listed_json (listed.RunsRefused c) = opened "run refused" ++ field "refusal" (number_of c) ++ closed
listed_json (listed.End k) = opened "end" ++ field "reads" k ++ closed
listed_json (listed.Stopped c k) = opened "stopped" ++ field "refusal" (number_of c) ++ field "reads" k ++ closed
listed_json listed.TableRefused = opened "table refused" ++ field "refusal" (number_of BadTable) ++ closed
listed_json listed.NoRecord = opened "table refused" ++ field "refusal" (number_of NoRecord) ++ closed

abbrev pub state_json : State → List ℕ
state_json state.Used = word_field "state" "used"
state_json state.Free = word_field "state" "free"
state_json (state.Refused c) = word_field "state" "refused" ++ field "refusal" (number_of c)

abbrev pub header_json : RecordHeader → List ℕ
header_json h =
    opened "header" ++ field "sequence" h.sequence ++ field "links" h.links ++ field "first" h.first_attribute
    ++ field "flags" h.flags ++ field "used" h.used ++ field "allocated" h.allocated ++ closed

abbrev pub json_text : Line → List ℕ
json_text (line.Listed l) = listed_json l
json_text (line.Row n place s) = opened "row" ++ field "number" n.0 ++ field "place" place ++ state_json s ++ closed
json_text (line.Rows k) = opened "end" ++ field "rows" k ++ closed
json_text (line.Header h) = header_json h
json_text line.End = opened "end" ++ closed
json_text (line.Stopped c) = opened "stopped" ++ field "refusal" (number_of c) ++ closed
json_text (line.Refused c) = opened "record refused" ++ field "refusal" (number_of c) ++ closed
