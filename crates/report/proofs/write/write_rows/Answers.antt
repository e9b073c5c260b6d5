use Rattle.report.proofs.Goes.{stops_as}
use Rattle.report.proofs.write.write_rows.Goals as goal

pub returns-clause-err : goal.returns-clause-err
returns-clause-err g c = stops_as _ _ _ _ _ _ c.write_lines.ensures.err (c.of_rows.ensures _)
