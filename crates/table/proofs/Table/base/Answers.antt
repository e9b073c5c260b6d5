-- The base row holds the base record.
use Rattle.table.proofs.Found.{some_base}
use Rattle.table.proofs.Table.base.Goals as goal

pub returns : goal.returns
returns c =
    some_base _ _ c.args.self.now.checked c.in_ok-i.i _ _ c.in_ok-i.ensures c.row-row.ensures.row c.record.ensures
