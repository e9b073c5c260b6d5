use Rattle.lines.specs.Went.{Went}
use Rattle.lines.proofs.write.write_all.Given as goal

abbrev pub invariant-loop : goal.invariant-loop
invariant-loop g l = Went (g.W.Write.contents l.initial.out) (g.W.Write.contents l.out) l.rest l.bytes
