use Rattle.std.proofs.Common.{arith, rules}
use Rattle.text.proofs.Puts.{both, said}
use Rattle.report.proofs.json.put_part.Goals as goal

pub returns : goal.returns
returns c = said (both (both (both (both (both c.put_field-file.ensures c.put_field-offset.ensures)
    c.put_field-lowest.ensures) c.put_field-from.ensures) c.put_field-bytes.ensures) c.put_fixed.ensures) (search
    rules)
    (omega arith)
