use Rattle.std.proofs.Common.{◌*◌, take}
use Rattle.text.specs.Put.{Put}
use Rattle.text.specs.Decimal.{numbers}
use Rattle.text.proofs.put_numbers.Given as goal

abbrev pub invariant-loop-n : goal.invariant-loop-n
invariant-loop-n l = Put l.fn.out l.at l.out l.end (numbers (take l.n-index l.list)) (21 * l.n-index)
