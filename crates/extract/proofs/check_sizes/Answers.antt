use Rattle.std.proofs.Common.{arith, sym, ◌∙◌}
use Rattle.extract.proofs.Sizes.{good_sized}
use Rattle.extract.proofs.check_sizes.Goals as goal

pub nonzero_rem-bytes : goal.nonzero_rem-bytes
nonzero_rem-bytes c =
    let x = good_sized _ (sym c.good_size.ensures ∙ c.if-not-good_size.false) in omega arith

pub overflow_cast-result : goal.overflow_cast-result
overflow_cast-result c =
    let x = good_sized _ (sym c.good_size.ensures ∙ c.if-not-good_size.false) in omega arith
