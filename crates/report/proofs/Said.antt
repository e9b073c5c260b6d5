-- What the last line says, line by line.
use Rattle.std.proofs.Common.{◌≡◌, List, ◌∙◌}
use Rattle.std.specs.Prelude.{None}
use Rattle.report.specs.Ending.{ending_of}
use Rattle.report.specs.Finished.{Finished}
use Rattle.report.specs.declared.line.Line.{Line}

-- a report that ends is not over before a line says so
pub said_none : (ls : List Line) → Finished ls → None ≡ ending_of ls → ⊥
said_none ls f e = let p = e ∙ f.told in cc
