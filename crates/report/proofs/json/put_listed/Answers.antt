use Rattle.std.proofs.Common.{arith, rules}
use Rattle.text.proofs.Puts.{said}
use Rattle.report.proofs.json.put_listed.Goals as goal

pub returns-in-Record : goal.returns-in-Record
returns-in-Record c = rw c.in-Record.is (said c.put_two_whole.ensures (first_of (cc, search rules)) (omega arith))

pub returns-in-Stopped : goal.returns-in-Stopped
returns-in-Stopped c = rw c.in-Stopped.is (said c.put_two_whole-in-Stopped.ensures (first_of (cc, search rules))
    (omega arith))

pub returns-in-RunsRefused : goal.returns-in-RunsRefused
returns-in-RunsRefused c = rw c.in-RunsRefused.is (said c.put_one_whole.ensures (first_of (cc, search rules))
    (omega arith))
