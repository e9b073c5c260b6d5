use Rattle.record.proofs.Given.{of-checked, of-step}
use Rattle.record.proofs.laws.attributes_stand.Goals as goal

pub returns-clause-checked : goal.returns-clause-checked
returns-clause-checked c = of-checked

pub returns-clause-stepped : goal.returns-clause-stepped
returns-clause-stepped c = of-step
