-- The line that stands before what is told of a record of an $MFT.
use Rattle.std.specs.Prelude.{ℕ, List, [], ◌∷◌, ◌++◌, codes, Option, Some, None}
use Rattle.std.specs.Fmt.{decimal}
use Rattle.std.specs.Str.{encode_utf8_all}
use Rattle.fields.specs.declared.RecordNumber.{RecordNumber}
use Rattle.lines.specs.Line.{newline, spaced}
use Rattle.report.specs.Json.{opened, closed}
use Rattle.report.specs.declared.form.Form.{Form}
use Rattle.report.specs.declared.form.Form.TheVariants as form
use Rattle.naming.specs.Units.{name_chars}
use Rattle.naming.specs.Shown.{shown_of, string_of}

-- ` NAME`; a name of no units is a blank with nothing behind it, and no name is nothing
abbrev pub text_name : Option (List ℕ) → List ℕ
text_name None = []
text_name (Some name) = spaced (encode_utf8_all (shown_of (name_chars name)))

-- `,"name":"NAME"`
abbrev pub json_name : Option (List ℕ) → List ℕ
json_name None = []
json_name (Some name) = codes ",\"name\":\"" ++ encode_utf8_all (string_of (name_chars name)) ++ (34 ∷ [])

-- `file N NAME`, or `{"line":"file","number":N,"name":"NAME"}`; the name is the rest of the line, blanks and all
abbrev pub file_line : Form → RecordNumber → Option (List ℕ) → List ℕ
file_line form.Text n name = codes "file " ++ decimal n.0 ++ text_name name ++ newline
file_line form.Json n name = opened "file" ++ (codes ",\"number\":" ++ decimal n.0 ++ json_name name ++ closed)
