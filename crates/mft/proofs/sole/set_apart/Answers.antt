-- The record opens in its own table as it does alone.
use Rattle.std.proofs.Common.{ap, ◌∙◌}
use Rattle.mft.specs.Gather.{wanted_by}
use Rattle.mft.proofs.Absences.{size_above_0}
use Rattle.mft.proofs.Rows.{sole_based, opens_alike, sound_long}
use Rattle.mft.proofs.sole.set_apart.Goals as goal

pub returns : goal.returns
returns c =
    let own = c.args.own.now in
    let n = c.args.number in
    let (b, v) = c.requires.sound in
    let held = c.extracts_are_held.ensures in
    let base =
    sole_based held.pass held.found held.others held.bases own b n v (size_above_0 _ c.requires.good) _ _
    c.write_alone-length.ensures.table in (
      c.write_alone-length.ensures.within,
      c.write_alone-length.ensures.table,
      (
        b,
        v,
        c.wanted_in-wanted.ensures
            ∙ ap (λ o. wanted_by o n)
            (c.file_of.ensures.answer _ n b base
            ∙ opens_alike b n _ (sound_long c.fixups_byte_by_byte.ensures.replaced own b v)),
      ),
    )
