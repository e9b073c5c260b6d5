use Rattle.std.proofs.Common.{arith, rules}
use Rattle.text.proofs.Puts.{both, said}
use Rattle.report.proofs.json.put_header.Goals as goal

pub returns : goal.returns
returns c = said (both (both (both (both (both (both c.put_field-sequence.ensures c.put_field-links.ensures)
    c.put_field-first.ensures) c.put_field-flags.ensures) c.put_field-used.ensures) c.put_field-allocated.ensures)
    c.put_fixed.ensures) (search rules)
    (omega arith)
