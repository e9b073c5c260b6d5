-- The buffer is long enough, so what refuses the call has a reason.
use Rattle.std.proofs.Common.{arith}
use Rattle.command.proofs.MergeFailures.{call_told}
use Rattle.command.proofs.merging.fill_pair.Goals as goal

pub told-requires : goal.told-requires
told-requires c =
    call_told c.args.pair.now _ c.in-Err.unmerged (c.rooms_are_enough.ensures c.args.pair.now _ (omega (arith, c.in-Ok.ensures.len)))
    c.in-Err.ensures.answer
