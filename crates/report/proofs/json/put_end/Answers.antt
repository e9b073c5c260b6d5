use Rattle.std.proofs.Common.{refl, arith}
use Rattle.text.proofs.Puts.{said}
use Rattle.report.proofs.json.put_end.Goals as goal

pub returns : goal.returns
returns c = said c.put_fixed.ensures refl (omega arith)
