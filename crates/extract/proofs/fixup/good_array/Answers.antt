use Rattle.std.proofs.Common.{arith}
use Rattle.std.proofs.lemmas.Bool.Decides.{nat_tests}
use Rattle.extract.proofs.Pairs.{good_by_place}
use Rattle.extract.proofs.fixup.good_array.Goals as goal

pub returns-then-at-count : goal.returns-then-at-count
returns-then-at-count c =
    let e = good_by_place c.args.raw.now c.requires.1 c.requires.2 in grind (arith, nat_tests)

pub returns-else-at-count : goal.returns-else-at-count
returns-else-at-count c =
    let e = good_by_place c.args.raw.now c.requires.1 c.requires.2 in grind (arith, nat_tests)
