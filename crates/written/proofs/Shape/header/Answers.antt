use Rattle.std.proofs.Common.{refl, ap, ◌∙◌, w32}
use Rattle.std.specs.Int.{to_le_bytes}
use Rattle.written.proofs.Filled.{header_filled}
use Rattle.written.proofs.Shape.header.Goals as goal

pub returns : goal.returns
returns c =
    let s = c.args.self.now in
    header_filled s.size s.base s.count _ _ _ _ _ _ _ _ _ _ _ refl
    (c.to_le_bytes.ensures ∙ ap (to_le_bytes w32) c.from.ensures)
    (c.to_le_bytes-2.ensures ∙ ap (to_le_bytes w32) c.from-2.ensures)
    c.to_le_bytes-3.ensures
    (c.to_le_bytes-4.ensures ∙ ap (to_le_bytes w32) c.row_place.ensures)
    (c.to_le_bytes-5.ensures ∙ ap (to_le_bytes w32) c.from-3.ensures)
    c.put.ensures c.put-2.ensures c.put-3.ensures c.put-4.ensures c.put-5.ensures
