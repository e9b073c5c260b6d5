use Rattle.lines.proofs.Calls.{pages_lose_none}
use Rattle.lines.proofs.laws.pages_lose_no_line.Goals as goal

pub returns : goal.returns
returns c = pages_lose_none
