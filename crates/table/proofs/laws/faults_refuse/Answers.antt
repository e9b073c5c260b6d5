use Rattle.table.proofs.Agree.{faults_agree}
use Rattle.table.proofs.laws.faults_refuse.Goals as goal

pub returns : goal.returns
returns c = faults_agree
