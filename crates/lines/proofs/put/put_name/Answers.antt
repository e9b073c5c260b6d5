use Rattle.std.proofs.Common.{arith}
use Rattle.text.proofs.Puts.{said}
use Rattle.lines.proofs.put.put_name.Goals as goal

pub returns-in-Refused : goal.returns-in-Refused
returns-in-Refused c = rw c.in-Refused.is (said c.put_words-in-Refused.ensures (cc) (omega arith))
