use Rattle.std.proofs.Common.{rules}
use Rattle.lines.proofs.Wents.{went_more, went_kept}
use Rattle.lines.proofs.write.write_all.Goals as goal
use Rattle.lines.proofs.write.write_all.Goals.{in-Ok, in-Err+else-ne}

pub loop-preserved : goal.loop-preserved
loop-preserved g c = elim c.match-write.branch [
  | in-Ok w ↦ rw w.rest-is (went_more _ _ _ _ _ _ c.loop.invariant (search rules))
  | in-Err+else-ne w ↦ rw w.rest-is (went_kept _ _ _ _ _ c.loop.invariant (search rules))
]
