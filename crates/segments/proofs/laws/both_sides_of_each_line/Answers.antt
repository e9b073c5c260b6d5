use Rattle.segments.proofs.Cases.{base_records, hazards_told}
use Rattle.segments.proofs.laws.both_sides_of_each_line.Goals as goal

pub returns-clause-bases : goal.returns-clause-bases
returns-clause-bases c = base_records

pub returns-clause-hazards : goal.returns-clause-hazards
returns-clause-hazards c = hazards_told
