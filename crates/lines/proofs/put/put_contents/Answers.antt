use Rattle.std.proofs.Common.{arith}
use Rattle.text.proofs.Puts.{both, said}
use Rattle.lines.proofs.put.put_contents.Goals as goal

pub returns-in-Refused : goal.returns-in-Refused
returns-in-Refused c = rw c.in-Refused.is (said c.put_words-in-Refused.ensures (cc) (omega arith))

pub returns-in-Runs : goal.returns-in-Runs
returns-in-Runs c = rw c.in-Runs.is (said (both c.put_words-end.ensures c.put_words-in-Runs.ensures) (cc)
    (omega arith))

pub returns-in-Parts : goal.returns-in-Parts
returns-in-Parts c = rw c.in-Parts.is (said (both c.put_words-end-in-Parts.ensures c.put_words-in-Parts.ensures) (cc)
    (omega arith))

pub returns-in-PartsRefused : goal.returns-in-PartsRefused
returns-in-PartsRefused c = rw c.in-PartsRefused.is (said (both c.put_words-end-in-PartsRefused.ensures
    c.put_words-in-PartsRefused.ensures) (cc) (omega arith))
