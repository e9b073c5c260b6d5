use Rattle.std.proofs.Common.{refl, arith, rules}
use Rattle.text.proofs.Puts.{said}
use Rattle.report.proofs.json.put_state.Goals as goal

pub returns-in-Used : goal.returns-in-Used
returns-in-Used c = rw c.in-Used.is (said c.put_fixed.ensures refl (omega arith))

pub returns-in-Free : goal.returns-in-Free
returns-in-Free c = rw c.in-Free.is (said c.put_fixed-in-Free.ensures refl (omega arith))

pub returns-in-Refused : goal.returns-in-Refused
returns-in-Refused c = rw c.in-Refused.is (said c.put_field.ensures (first_of (cc, search rules)) (omega arith))
