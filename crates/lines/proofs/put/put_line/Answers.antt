use Rattle.std.proofs.Common.{arith, rules}
use Rattle.text.proofs.Puts.{both, said}
use Rattle.lines.proofs.put.put_line.Goals as goal

pub returns-in-Stopped : goal.returns-in-Stopped
returns-in-Stopped c = rw c.in-Stopped.is (said (both (both c.put_words-end-in-Stopped.ensures
    c.put_words-end-in-Stopped-2.ensures) c.put_byte-in-Stopped.ensures) (search rules) (omega arith))

pub returns-in-Record : goal.returns-in-Record
returns-in-Record c = rw c.in-Record.is (said (both (both c.put_words-end-in-Record.ensures
    c.put_words-end-in-Record-2.ensures) c.put_byte-in-Record.ensures) (search rules) (omega arith))

pub returns-in-RunsRefused : goal.returns-in-RunsRefused
returns-in-RunsRefused c = rw c.in-RunsRefused.is (said (both c.put_words-end.ensures c.put_byte.ensures) (search rules)
    (omega arith))
