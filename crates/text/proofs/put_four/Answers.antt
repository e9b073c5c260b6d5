use Rattle.std.proofs.Common.{◌≡◌, ◌/◌, arith}
use Rattle.text.proofs.Puts.{digit_more}
use Rattle.text.proofs.put_four.Goals as goal

pub returns : goal.returns
returns c =
    let h : c.args.n / 100 ≡ c.args.n / 10 / 10 = omega arith in
    digit_more (omega arith) (omega arith) c.digit-2.ensures
    (digit_more (omega arith) (omega arith) c.digit.ensures (rw h at c.put_two-end.ensures) c.put_byte-end.ensures)
    c.put_byte.ensures
