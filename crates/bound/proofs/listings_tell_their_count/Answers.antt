use Rattle.bound.proofs.Printed.{walks_tell, listings_tell}
use Rattle.bound.proofs.listings_tell_their_count.Goals as goal

pub returns-clause-walk : goal.returns-clause-walk
returns-clause-walk c = walks_tell

pub returns-clause-table : goal.returns-clause-table
returns-clause-table c = listings_tell
