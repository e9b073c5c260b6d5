use Rattle.std.proofs.Common.{refl, ap, ◌∙◌}
use Rattle.written.specs.Layout.{row_bytes}
use Rattle.written.proofs.Filled.{row_filled}
use Rattle.written.proofs.Shape.row.Goals as goal

pub returns : goal.returns
returns c =
    row_filled c.args.number c.record_place.result _ _ _ _ _ refl c.to_le_bytes.ensures c.to_le_bytes-2.ensures
    c.put.ensures c.put-2.ensures
    ∙ ap (row_bytes c.args.number) c.record_place.ensures.place
