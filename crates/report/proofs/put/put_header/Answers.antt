use Rattle.std.proofs.Common.{arith, rules}
use Rattle.text.proofs.Puts.{both, said}
use Rattle.report.proofs.put.put_header.Goals as goal

pub returns : goal.returns
returns c = said (both (both (both (both (both (both c.put_words-sequence.ensures c.put_words-links.ensures)
    c.put_words-first.ensures) c.put_words-flags.ensures) c.put_words-used.ensures) c.put_words-allocated.ensures)
    c.put_byte.ensures) (search rules) (omega arith)
