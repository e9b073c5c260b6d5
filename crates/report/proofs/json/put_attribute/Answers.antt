use Rattle.std.proofs.Common.{arith, rules}
use Rattle.text.proofs.Puts.{both, said}
use Rattle.report.proofs.json.put_attribute.Goals as goal

pub returns : goal.returns
returns c = said (both (both (both c.put_place-place.ensures c.put_name-name.ensures) c.put_contents-contents.ensures)
    c.put_fixed.ensures) (search rules) (omega arith)
