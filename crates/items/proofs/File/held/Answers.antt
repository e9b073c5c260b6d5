-- A record of the table is as long as the base record.
use Rattle.items.proofs.Opened.{held_sized}
use Rattle.items.proofs.File.held.Goals as goal

pub returns-clause-sized : goal.returns-clause-sized
returns-clause-sized c = held_sized _ _ _ _ _ c.args.self.now.table.checked c.args.self.now.sized c.get.ensures
