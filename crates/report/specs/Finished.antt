-- What the function that writes lines asks of them: that the last one says how they end.
use Rattle.std.specs.Prelude.{◌≡◌, List, Some}
use Rattle.lines.specs.declared.ending.Ending.{Ending}
use Rattle.report.specs.Ending.{ending_of}
use Rattle.report.specs.declared.line.Line.{Line}

pub record Finished (ls : List Line) : Type 0 where
  pub ending : Ending
  pub told : ending_of ls ≡ Some ending
