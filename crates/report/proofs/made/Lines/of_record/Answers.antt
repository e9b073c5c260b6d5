use Rattle.report.proofs.Opened.{opened_lines}
use Rattle.report.proofs.made.Lines.of_record.Goals as goal

pub returns-in-Ok : goal.returns-in-Ok
returns-in-Ok c = λ ps. opened_lines _ _ _ _ _ _ c.in-Ok.ensures c.header.ensures c.attributes.ensures.walk
