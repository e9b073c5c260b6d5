use Rattle.std.proofs.Common.{arith, rules}
use Rattle.text.proofs.Puts.{said}
use Rattle.report.proofs.json.put_contents.Goals as goal

pub returns-in-Resident : goal.returns-in-Resident
returns-in-Resident c = rw c.in-Resident.is (said c.put_two.ensures (first_of (cc, search rules)) (omega arith))

pub returns-in-Refused : goal.returns-in-Refused
returns-in-Refused c = rw c.in-Refused.is (said c.put_field.ensures (first_of (cc, search rules)) (omega arith))

pub returns-in-Parts : goal.returns-in-Parts
returns-in-Parts c = rw c.in-Parts.is (said c.put_two-in-Parts.ensures (first_of (cc, search rules)) (omega arith))

pub returns-in-PartsRefused : goal.returns-in-PartsRefused
returns-in-PartsRefused c = rw c.in-PartsRefused.is
    (said c.put_two-in-PartsRefused.ensures (first_of (cc, search rules)) (omega arith))
