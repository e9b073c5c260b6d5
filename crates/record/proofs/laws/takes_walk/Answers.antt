use Rattle.record.proofs.Readers.{takes-walk, places-rise, ends-stay, refusals-stay, end-rests, refusal-rests}
use Rattle.record.proofs.laws.takes_walk.Goals as goal

pub returns-clause-walk : goal.returns-clause-walk
returns-clause-walk c = takes-walk

pub returns-clause-places : goal.returns-clause-places
returns-clause-places c = places-rise

pub returns-clause-ended : goal.returns-clause-ended
returns-clause-ended c = ends-stay

pub returns-clause-refused : goal.returns-clause-refused
returns-clause-refused c = refusals-stay

pub returns-clause-end_rests : goal.returns-clause-end_rests
returns-clause-end_rests c = end-rests

pub returns-clause-refusal_rests : goal.returns-clause-refusal_rests
returns-clause-refusal_rests c = refusal-rests
