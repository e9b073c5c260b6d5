-- Behind the last run stands the next part, with its runs.
use Rattle.std.proofs.Common.{◌≡◌, [], length}
use Rattle.lines.specs.Rest.{run_in, runs_rest}
use Rattle.lines.proofs.Rests.{shown_next}
use Rattle.lines.proofs.walk.Walk.next.Goals as goal

pub returns-then-self-parts-clause-lines : goal.returns-then-self-parts-clause-lines
returns-then-self-parts-clause-lines c =
    let w = c.args.self.now in
    let ps = c.args.parts.now in
    let e : runs_rest w.runs ≡ [] = c.in_default.ensures.gives.0 in
    rw e
    (shown_next w.file ps w.shown w.count _ (runs_rest c.part_runs-self.result)
    (run_in (length ps) w.file w.calls w.reads w.state) c.if-self.true c.if-self-parts.true c.part_runs-self.ensures)
