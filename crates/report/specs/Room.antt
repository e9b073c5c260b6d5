-- The room that a line takes at most, as text and as an object.
use Rattle.std.specs.Prelude.{ℕ}

abbrev pub most_line : ℕ
most_line = 256

abbrev pub most_json : ℕ
most_json = 512
