-- The record opens in its own table as it does alone, and so it is a base record in use, or none, or is refused.
use Rattle.std.specs.Prelude.{◌≡◌, true, false}
use Rattle.std.proofs.Common.{rules, refl, ap, ◌∙◌}
use Rattle.segments.specs.Base.{is_base_in_use}
use Rattle.mft.specs.Gather.{wanted_by}
use Rattle.mft.proofs.Absences.{size_above_0}
use Rattle.mft.proofs.Rows.{sole_based, opens_alike, sound_long}
use Rattle.mft.proofs.Sorts.{there_by, broken_as, base_as, passed_as}
use Rattle.mft.proofs.sole.sift.Goals as goal

pub returns-in-Ok-2-clause-ok : goal.returns-in-Ok-2-clause-ok
returns-in-Ok-2-clause-ok c =
    let own = c.args.own.now in
    let n = c.args.number in
    let (b, v) = there_by _ c.in-None.ensures in
    let held = c.extracts_are_held.ensures in
    let base =
    sole_based held.pass held.found held.others held.bases own b n v (size_above_0 _ c.requires.good) _ _
    c.write_alone-length.ensures.table in
    let opens =
    c.file_of-file.ensures.answer _ n b base
    ∙ opens_alike b n _ (sound_long c.fixups_byte_by_byte.ensures.replaced own b v) in
    let not_in_use : false ≡ is_base_in_use c.in-Ok.opened.base.bytes.now = search rules in
    passed_as own b n v _ opens _ c.in-Ok.is not_in_use

pub returns-in-Err-clause-err : goal.returns-in-Err-clause-err
returns-in-Err-clause-err c =
    let own = c.args.own.now in
    let n = c.args.number in
    let (b, v) = there_by _ c.in-None.ensures in
    let held = c.extracts_are_held.ensures in
    let base =
    sole_based held.pass held.found held.others held.bases own b n v (size_above_0 _ c.requires.good) _ _
    c.write_alone-length.ensures.table in
    let opens =
    c.file_of-file.ensures.answer _ n b base
    ∙ opens_alike b n _ (sound_long c.fixups_byte_by_byte.ensures.replaced own b v) in
    let refusal = c.in-Err.refusal in
    (refusal.cause, broken_as own b n v _ opens refusal c.in-Err.is, refl)

pub returns-clause-ok : goal.returns-clause-ok
returns-clause-ok c =
    let own = c.args.own.now in
    let n = c.args.number in
    let (b, v) = there_by _ c.in-None.ensures in
    let held = c.extracts_are_held.ensures in
    let base =
    sole_based held.pass held.found held.others held.bases own b n v (size_above_0 _ c.requires.good) _ _
    c.write_alone-length.ensures.table in
    let opens =
    c.file_of-file.ensures.answer _ n b base
    ∙ opens_alike b n _ (sound_long c.fixups_byte_by_byte.ensures.replaced own b v) in
    let in_use : true ≡ is_base_in_use c.in-Ok.opened.base.bytes.now = search rules in (
      (b, base_as own b n v _ opens _ c.in-Ok.is in_use),
      (
        c.write_alone-length.ensures.within,
        c.write_alone-length.ensures.table,
        (b, v, c.wanted_in-wanted.ensures ∙ ap (λ o. wanted_by o n) opens),
      ),
    )
