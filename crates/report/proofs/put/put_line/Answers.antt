use Rattle.std.proofs.Common.{arith, rules}
use Rattle.text.proofs.Puts.{said}
use Rattle.report.proofs.put.put_line.Goals as goal

pub returns-in-Refused : goal.returns-in-Refused
returns-in-Refused c = rw c.in-Refused.is (said c.put_whole-in-Refused.ensures (first_of (cc, search rules))
    (omega arith))
