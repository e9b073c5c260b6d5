use Rattle.std.proofs.Common.{arith}
use Rattle.text.proofs.Puts.{digit_one, digit_more}
use Rattle.text.proofs.put_two.Goals as goal

pub returns-then-n-lt10 : goal.returns-then-n-lt10
returns-then-n-lt10 c = digit_one c.if-n-lt10.true c.digit.ensures (omega arith) c.put_byte.ensures

pub returns : goal.returns
returns c =
    digit_more c.if-n-lt10.false (omega arith) c.digit-3.ensures
    (digit_one {m = 1} (omega arith) c.digit-2.ensures (omega arith) c.put_byte-end.ensures) c.put_byte-2.ensures
