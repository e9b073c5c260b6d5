-- The row that was found tells the record.
use Rattle.std.specs.Prelude.{◌≡◌, Some}
use Rattle.std.proofs.Common.{subst}
use Rattle.table.specs.Row.{first_row}
use Rattle.table.specs.declared.Table.{Table}
use Rattle.table.proofs.Found.{got_row}
use Rattle.table.proofs.Table.get.Goals as goal

pub returns : goal.returns
returns c =
    let found = subst (λ (x : Table). Some c.in_ok-row.row ≡ first_row x.bytes.now x.header c.args.wanted)
    c.of.ensures c.in_ok-row.ensures in
    got_row _ _ c.args.self.now.checked _ c.in_ok-row.row _ found c.record.ensures
