use Rattle.std.proofs.Common.{arith, rules}
use Rattle.text.proofs.Puts.{both, said}
use Rattle.lines.proofs.put.put_attribute.Goals as goal

pub returns : goal.returns
returns c = said (both (both (both c.put_words-end.ensures c.put_name-end.ensures) c.put_contents-end.ensures)
    c.put_byte.ensures) (search rules) (omega arith)
