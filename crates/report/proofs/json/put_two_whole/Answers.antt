use Rattle.std.proofs.Common.{arith, rules}
use Rattle.text.proofs.Puts.{both, said}
use Rattle.report.proofs.json.put_two_whole.Goals as goal

pub returns : goal.returns
returns c = let r = c.requires.short in let s = c.requires.short_between in said (both c.put_two-end.ensures
    c.put_fixed.ensures) (search rules)
    (omega arith)
