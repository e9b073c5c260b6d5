-- RULES 18.10, 18.12: the line of an attribute as the raw walk gives it, in its own record, and the runs under it.
use Rattle.std.specs.Prelude.{ℕ, List}
use Rattle.fields.specs.Answer.{gives}
use Rattle.fields.specs.declared.RecordNumber.{RecordNumber}
use Rattle.record.specs.Open.{lent}
use Rattle.record.specs.Name.{name_of}
use Rattle.record.specs.Value.{value_of}
use Rattle.record.specs.declared.layout.Attribute.{Attribute}
use Rattle.lines.specs.Listing.{named, valued}
use Rattle.lines.specs.Runs.{value_lines}
use Rattle.lines.specs.declared.line.Line.{Line}
use Rattle.lines.specs.declared.line.Line.TheVariants as line

abbrev pub raw_line : List ℕ → RecordNumber → Attribute → Line
raw_line s n h = line.Attribute (record {
  file = n;
  offset = h.offset;
  ty = h.ty;
  length = h.length;
  instance = h.instance;
  name = named (name_of s n h.offset);
  contents = valued (value_of s n h.offset);
})

abbrev pub raw_runs : List ℕ → RecordNumber → Attribute → List Line
raw_runs s n h = value_lines (gives (lent s n)) (valued (value_of s n h.offset))
