use Rattle.std.proofs.Common.{sym, le_of_lt}
use lib.Seq.{length-take-le}
use Rattle.command.specs.Asked.{record_reach}
use Rattle.command.proofs.misfit.front.Goals as goal

pub slice_bounds-result-end : goal.slice_bounds-result-end
slice_bounds-result-end c =
    sym (length-take-le record_reach c.args.bytes.now (le_of_lt c.if-bytes-le-RECORD_REACH.false))
