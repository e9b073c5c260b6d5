use Rattle.std.proofs.Common.{arith, rules}
use Rattle.text.proofs.Puts.{both, said}
use Rattle.report.proofs.json.put_place.Goals as goal

pub returns : goal.returns
returns c = said (both (both (both (both c.put_field-file.ensures c.put_field-offset.ensures) c.put_field-ty.ensures)
    c.put_field-length.ensures) c.put_field.ensures) (search rules) (omega arith)
