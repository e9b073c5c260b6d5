use Rattle.lines.proofs.Calls.{fills_tell}
use Rattle.lines.proofs.laws.fills_tell_the_listing.Goals as goal

pub returns : goal.returns
returns c = fills_tell
