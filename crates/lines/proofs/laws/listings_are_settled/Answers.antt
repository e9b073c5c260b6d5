use Rattle.lines.proofs.Calls.{listed_once}
use Rattle.lines.proofs.laws.listings_are_settled.Goals as goal

pub returns : goal.returns
returns c = listed_once
