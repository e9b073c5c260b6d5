use Rattle.std.proofs.Common.{refl, arith}
use Rattle.text.proofs.Puts.{said}
use Rattle.report.proofs.form.put_formed.Goals as goal

pub returns-in-Text : goal.returns-in-Text
returns-in-Text c = rw c.in-Text.is (said c.put_line.ensures refl (omega arith))
