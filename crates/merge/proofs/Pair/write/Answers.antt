use Rattle.std.proofs.Common.{rules, arith}
use Rattle.table.proofs.Sound.{sound}
use Rattle.merge.proofs.Calls.{long_enough}
use Rattle.merge.proofs.Pair.write.Goals as goal

pub overflow_cast-self : goal.overflow_cast-self
overflow_cast-self c =
    let t = c.args.self.now.first in let most = (sound t.bytes.now t.header t.checked).sized.most in omega arith

pub fill-requires-clause-room : goal.fill-requires-clause-room
fill-requires-clause-room c = search (rules, long_enough)
