-- The record alone stands in the buffers that are handed on.
use Rattle.std.specs.Prelude.{◌≡◌, length, vec_len}
use Rattle.std.proofs.Common.{ap, rules, ◌∙◌}
use Rattle.mft.proofs.Readied.{sole_as}
use Rattle.mft.proofs.mft.Mft.complete.Goals as goal

pub complete-requires-clause-sole : goal.complete-requires-clause-sole
complete-requires-clause-sole g c =
    let me = c.args.self.now in
    let room : length c.deref_mut-2.result.now ≡ vec_len me.table = search rules in
    sole_as me.own.items _ (ap (λ own. own.now) c.of.ensures.raw ∙ c.deref.ensures.value) c.args.number _
    c.of.ensures.number (vec_len me.table) _ room me.table.items _ c.deref_mut-2.ensures.value c.args.sole.now
    c.requires.sole
