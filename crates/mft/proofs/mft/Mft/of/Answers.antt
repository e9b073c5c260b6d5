-- There is room for each record.
use Rattle.std.proofs.Common.{◌∙◌, arith}
use Rattle.mft.proofs.mft.Mft.of.Goals as goal

pub invariant_of-result : goal.invariant_of-result
invariant_of-result g c = record {
  good = c.in_ok-size.ensures.good;
  one = c.in_ok-own.ensures.ok ∙ c.from-size.ensures;
  most = omega (arith, c.in_ok-raw.ensures.ok, c.from-size.ensures);
  roomy = omega (arith, c.in_ok-table.ensures.ok, c.from-size.ensures);
}
