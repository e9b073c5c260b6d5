use Rattle.std.proofs.Common.{arith, rules}
use Rattle.text.proofs.Puts.{both, said}
use Rattle.report.proofs.json.put_row.Goals as goal

pub returns : goal.returns
returns c = said (both (both c.put_two-end.ensures c.put_state-stated.ensures) c.put_fixed.ensures) (search rules)
    (omega arith)
