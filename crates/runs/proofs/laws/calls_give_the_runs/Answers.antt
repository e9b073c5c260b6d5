use Rattle.runs.proofs.Calls.{calls-give, calls-made, runs-end, few, ends-stay, refusals-stay}
use Rattle.runs.proofs.laws.calls_give_the_runs.Goals as goal

pub returns-clause-calls : goal.returns-clause-calls
returns-clause-calls c = calls-give

pub returns-clause-made : goal.returns-clause-made
returns-clause-made c = calls-made

pub returns-clause-end : goal.returns-clause-end
returns-clause-end c = runs-end

pub returns-clause-few : goal.returns-clause-few
returns-clause-few c = few

pub returns-clause-end_stays : goal.returns-clause-end_stays
returns-clause-end_stays c = ends-stay

pub returns-clause-refusal_stays : goal.returns-clause-refusal_stays
returns-clause-refusal_stays c = refusals-stay
