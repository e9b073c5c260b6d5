use Rattle.std.proofs.Common.{arith, rules}
use Rattle.text.proofs.Puts.{both, said}
use Rattle.report.proofs.put.put_whole.Goals as goal

pub returns : goal.returns
returns c = let r = c.requires.short in said (both c.put_words-end.ensures c.put_byte.ensures) (search rules)
    (omega arith)
