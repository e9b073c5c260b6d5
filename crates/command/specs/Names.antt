-- How a file's name is shown.
use Rattle.std.specs.Prelude.{ℕ, List, [], ◌∷◌, ◌++◌, ◌||◌, Bool, eqb, flat_map, codes}
use Rattle.std.specs.Char.Escape.{escape_ascii}
use Rattle.fields.specs.Pick.{pick}
use Rattle.lines.specs.Line.{newline}
use Rattle.report.specs.Json.{opened, closed}
use Rattle.report.specs.declared.form.Form.{Form}
use Rattle.report.specs.declared.form.Form.TheVariants as form

-- each byte by std's `escape_ascii`: as it is where it prints, else behind a backslash, and a backslash doubled
abbrev pub shown_of : List ℕ → List ℕ
shown_of name = flat_map escape_ascii name

-- in a string of JSON a quote and a backslash stand behind a backslash, and any other byte that prints as it is
abbrev pub is_escaped : ℕ → Bool
is_escaped b = eqb b 34 || eqb b 92

abbrev pub escaped : ℕ → List ℕ
escaped b = pick (is_escaped b) (92 ∷ b ∷ []) (b ∷ [])

abbrev pub string_of : List ℕ → List ℕ
string_of shown = flat_map escaped shown

-- `table NAME`, or `{"line":"table","name":"NAME"}`: the line before what is told of an input, where several are
abbrev pub heading_of : Form → List ℕ → List ℕ
heading_of form.Text name = codes "table " ++ shown_of name ++ newline
heading_of form.Json name =
    opened "table" ++ (codes ",\"name\":\"" ++ string_of (shown_of name) ++ (34 ∷ closed))
