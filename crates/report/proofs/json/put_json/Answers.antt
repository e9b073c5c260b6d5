use Rattle.std.proofs.Common.{arith, rules}
use Rattle.text.proofs.Puts.{said}
use Rattle.report.proofs.json.put_json.Goals as goal

pub returns-in-Stopped : goal.returns-in-Stopped
returns-in-Stopped c = rw c.in-Stopped.is (said c.put_one_whole-in-Stopped.ensures (first_of (cc, search rules))
    (omega arith))
