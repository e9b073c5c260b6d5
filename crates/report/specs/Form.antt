-- RULES 18.11: a line in one of two forms, as text or as an object of JSON.
use Rattle.std.specs.Prelude.{ℕ, List, flat_map}
use Rattle.report.specs.Line.{line_text}
use Rattle.report.specs.Json.{json_text}
use Rattle.report.specs.declared.line.Line.{Line}
use Rattle.report.specs.declared.form.Form.{Form}
use Rattle.report.specs.declared.form.Form.TheVariants as form

abbrev pub form_text : Form → Line → List ℕ
form_text form.Text l = line_text l
form_text form.Json l = json_text l

-- lines one behind another
abbrev pub lines_text : Form → List Line → List ℕ
lines_text f ls = flat_map (form_text f) ls
