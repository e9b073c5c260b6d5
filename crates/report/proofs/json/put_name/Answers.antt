use Rattle.std.proofs.Common.{arith, rules}
use Rattle.text.proofs.Puts.{said}
use Rattle.report.proofs.json.put_name.Goals as goal

pub returns-in-At : goal.returns-in-At
returns-in-At c = rw c.in-At.is (said c.put_two.ensures (first_of (cc, search rules)) (omega arith))

pub returns-in-Refused : goal.returns-in-Refused
returns-in-Refused c = rw c.in-Refused.is (said c.put_field.ensures (first_of (cc, search rules)) (omega arith))
