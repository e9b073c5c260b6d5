use Rattle.bound.proofs.Ends.{ends_so}
use Rattle.bound.proofs.listings_end.Goals as goal

pub returns : goal.returns
returns c = ends_so
