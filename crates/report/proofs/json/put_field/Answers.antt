use Rattle.text.proofs.Puts.{both}
use Rattle.report.proofs.json.put_field.Goals as goal

pub returns : goal.returns
returns c = both c.put_fixed-end.ensures c.put_number.ensures
