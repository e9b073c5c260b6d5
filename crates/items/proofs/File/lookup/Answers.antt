-- A record that was opened is as long as what was lent.
use Rattle.items.proofs.Opened.{looked_sized}
use Rattle.items.proofs.File.lookup.Goals as goal

pub returns-in-Some-clause-sized : goal.returns-in-Some-clause-sized
returns-in-Some-clause-sized c = looked_sized _ _ _ c.open.result c.in-Some.ensures.sized c.open.ensures
