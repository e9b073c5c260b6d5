use Rattle.std.proofs.Common.{arith, rules}
use Rattle.text.proofs.Puts.{both, said}
use Rattle.report.proofs.json.put_runs.Goals as goal

pub returns : goal.returns
returns c = said (both c.put_two-end.ensures c.put_field.ensures) (search rules)
    (omega arith)
