use Rattle.text.proofs.Puts.{no_number, one_number}
use Rattle.text.proofs.put_numbers.Goals as goal

pub loop-n-init : goal.loop-n-init
loop-n-init c = no_number c.args.out.now c.args.at c.args.list.now

pub loop-n-preserved : goal.loop-n-preserved
loop-n-preserved c =
    one_number c.args.list.now c.loop-n.n-index c.loop-n-test.true c.loop-n.invariant c.put_byte-end.ensures
    c.put_number-end.ensures
