use Rattle.std.proofs.Common.{arith, rules}
use Rattle.text.proofs.Puts.{both, said}
use Rattle.report.proofs.put.put_row.Goals as goal

pub returns : goal.returns
returns c = said (both (both c.put_words-end.ensures c.put_state-stated.ensures) c.put_byte.ensures) (search rules)
    (omega arith)
