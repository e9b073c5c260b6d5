-- What refuses the pair refuses the call.
use Rattle.std.proofs.Common.{inr, sym}
use Rattle.merge.proofs.Calls.{pair_refuses}
use Rattle.command.proofs.MergeFailures.{pair_told}
use Rattle.command.proofs.merging.join.Goals as goal

pub told-requires : goal.told-requires
told-requires c = pair_told c.args.first.now c.args.second.now c.in-Err.unmerged c.in-Err.ensures.answer

pub returns-in-Err : goal.returns-in-Err
returns-in-Err c =
    inr (
      0,
      (
        c.in-Err.unmerged,
        sym (pair_refuses c.args.first.now c.args.second.now 0 c.in-Err.unmerged c.in-Err.ensures.answer),
        c.told.ensures,
      ),
    )
