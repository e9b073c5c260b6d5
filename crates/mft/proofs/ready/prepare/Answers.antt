-- The buffer is as long as it was.
use Rattle.std.specs.Prelude.{◌≡◌, length}
use Rattle.std.proofs.Common.{refl, ap, rules}
use Rattle.mft.proofs.Readied.{sole_as}
use Rattle.mft.proofs.ready.prepare.Goals as goal

pub complete-requires-clause-sole : goal.complete-requires-clause-sole
complete-requires-clause-sole g c =
    let room : length c.set_apart-sole.new.table ≡ length c.args.table.now = search rules in
    sole_as c.fetch.new.room _ (ap (λ own. own.now) c.of.ensures.raw) c.args.number _ c.of.ensures.number
    (length c.args.table.now) _ room c.set_apart-sole.new.table _ refl c.set_apart-sole.result
    c.set_apart-sole.ensures
