use Rattle.text.proofs.Puts.{both}
use Rattle.report.proofs.json.put_two.Goals as goal

pub returns : goal.returns
returns c = both c.put_field-end.ensures c.put_field.ensures
