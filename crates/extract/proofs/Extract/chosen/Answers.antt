use Rattle.std.proofs.Common.{ℕ, ◌/◌, length, arith, sym, ap, ◌∙◌}
use Rattle.extract.proofs.Sizes.{sized}
use Rattle.extract.proofs.Risen.{list_suits}
use Rattle.extract.proofs.Extract.chosen.Goals as goal

pub nonzero_div-bytes : goal.nonzero_div-bytes
nonzero_div-bytes c =
    let x = (sized _ _ c.in_ok-size.ensures.whole).least in omega (arith, c.from.ensures)

pub invariant_of-result : goal.invariant_of-result
invariant_of-result c = record {
  checked = c.in_ok-size.ensures.whole;
  numbered = list_suits c.args.numbers.now _
      (ap (λ (n : ℕ). length c.args.bytes.now / n) (sym c.from.ensures) ∙ c.if-bytes-from.false)
      c.in_ok-check_risen.ensures;
}
