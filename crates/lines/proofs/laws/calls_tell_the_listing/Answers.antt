use Rattle.lines.proofs.Calls.{calls_tell}
use Rattle.lines.proofs.laws.calls_tell_the_listing.Goals as goal

pub returns : goal.returns
returns c = calls_tell
