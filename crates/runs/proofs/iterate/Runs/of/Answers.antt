use Rattle.runs.proofs.Walks.{clipped}
use Rattle.runs.proofs.iterate.Runs.of.Goals as goal

pub returns : goal.returns
returns c =
    let s = c.args.within.now in
    clipped s.number s.bytes.now c.args.bytes.from c.args.bytes.bytes c.min-from.result c.min.result
    c.min-from.ensures c.min.ensures
