use Rattle.std.proofs.Common.{arith, rules}
use Rattle.text.proofs.Puts.{said}
use Rattle.report.proofs.json.put_refused.Goals as goal

pub returns : goal.returns
returns c = said c.put_one_whole.ensures (first_of (cc, search rules)) (omega arith)
