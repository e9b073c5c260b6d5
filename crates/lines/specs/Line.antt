-- RULES 18.2 to 18.4, 18.6, 18.12: the text of a listing's lines. A line ends in one newline.
use Rattle.std.specs.Prelude.{ℕ, List, [], ◌∷◌, ◌++◌, flat_map}
use Rattle.fields.specs.Told.{number_of}
use Rattle.fields.specs.declared.Cause.TheVariants.{NoRecord, BadTable}
use Rattle.text.specs.Decimal.{words}
use Rattle.parts.specs.declared.Part.{Part}
use Rattle.runs.specs.declared.run.Run.{Run}
use Rattle.runs.specs.declared.run.Run.TheVariants as runs
use Rattle.lines.specs.declared.line.Name.{Name}
use Rattle.lines.specs.declared.line.Name.TheVariants as name
use Rattle.lines.specs.declared.line.Contents.{Contents}
use Rattle.lines.specs.declared.line.Contents.TheVariants as contents
use Rattle.lines.specs.declared.line.AttributeLine.{AttributeLine}
use Rattle.lines.specs.declared.line.Line.{Line}
use Rattle.lines.specs.declared.line.Line.TheVariants as line

-- no line is longer (put_line has it in its contract)
abbrev pub most_line : ℕ
most_line = 256

abbrev pub newline : List ℕ
newline = 10 ∷ []

-- a text behind a space
abbrev pub spaced : List ℕ → List ℕ
spaced x = 32 ∷ x

-- `name OFFSET BYTES`, or `name refused N`
abbrev pub name_text : Name → List ℕ
name_text (name.At p) = words "name" (p.from ∷ p.bytes ∷ [])
name_text (name.Refused c) = words "name refused" (number_of c ∷ [])

-- `value resident OFFSET BYTES`, `value runs OFFSET BYTES size S`, `value refused N`, `value parts K size S`, or
-- `value parts K refused N`
abbrev pub contents_text : Contents → List ℕ
contents_text (contents.Resident p) = words "value resident" (p.from ∷ p.bytes ∷ [])
contents_text (contents.Runs p size) = words "value runs" (p.from ∷ p.bytes ∷ []) ++ words " size" (size ∷ [])
contents_text (contents.Refused c) = words "value refused" (number_of c ∷ [])
contents_text (contents.Parts k size) = words "value parts" (k ∷ []) ++ words " size" (size ∷ [])
contents_text (contents.PartsRefused k c) = words "value parts" (k ∷ []) ++ words " refused" (number_of c ∷ [])

-- RECORD OFFSET TYPE LENGTH INSTANCE, and then the name and the value
abbrev pub attribute_numbers : AttributeLine → List ℕ
attribute_numbers a = a.file.0 ∷ a.offset ∷ a.ty ∷ a.length ∷ a.instance ∷ []

abbrev pub attribute_text : AttributeLine → List ℕ
attribute_text a =
    words "attr" (attribute_numbers a) ++ spaced (name_text a.name) ++ spaced (contents_text a.contents) ++ newline

-- RECORD OFFSET VCN RUNOFFSET RUNBYTES
abbrev pub part_numbers : Part → List ℕ
part_numbers p = p.file.0 ∷ p.offset ∷ p.lowest.0 ∷ p.runs.from ∷ p.runs.bytes ∷ []

abbrev pub part_text : Part → List ℕ
part_text p = words "part" (part_numbers p) ++ newline

-- `run START LENGTH`, or `hole LENGTH`
abbrev pub run_text : Run → List ℕ
run_text (runs.Clusters s k) = words "run" (s.0 ∷ k ∷ []) ++ newline
run_text (runs.Hole k) = words "hole" (k ∷ []) ++ newline

abbrev pub line_text : Line → List ℕ
line_text (line.Record n m) = words "record" (n.0 ∷ []) ++ words " size" (m ∷ []) ++ newline
line_text (line.Attribute a) = attribute_text a
line_text (line.Part p) = part_text p
line_text (line.Run r) = run_text r
line_text (line.RunsRefused c) = words "run refused" (number_of c ∷ []) ++ newline
line_text (line.End k) = words "end reads" (k ∷ []) ++ newline
line_text (line.Stopped c k) = words "stopped" (number_of c ∷ []) ++ words " reads" (k ∷ []) ++ newline
line_text line.TableRefused = words "table refused" (number_of BadTable ∷ []) ++ newline
line_text line.NoRecord = words "table refused" (number_of NoRecord ∷ []) ++ newline

-- lines one behind another
abbrev pub lines_text : List Line → List ℕ
lines_text ls = flat_map line_text ls
