-- The bytes that were read are passed over as well.
use Rattle.std.specs.Prelude.{◌-◌, ◌≤◌, ◌≡◌, length, take}
use Rattle.std.proofs.Common.{arith}
use Rattle.std.proofs.lemmas.List.{length-take, length-take-le}
use Rattle.command.proofs.Passed.{passes_more}
use Rattle.command.proofs.part.pass_over.Goals as goal

pub loop-preserved : goal.loop-preserved
loop-preserved g c =
    let within : c.in-Ok.read ≤ length c.read_once.new.room = c.in-Ok.ensures.within in
    let room : length c.read_once.new.room ≡ length (take c.min-most.result c.loop.room) = c.read_once.auto.room in
    let most = length-take c.min-most.result c.loop.room in
    let taken = length-take-le c.in-Ok.read c.read_once.new.room within in
    record {
      passed = passes_more (c.args.count - c.loop.left) _ _ _ _ (take c.in-Ok.read c.read_once.new.room)
          c.loop.invariant.passed c.in-Ok.ensures.bytes (omega arith);
      rest = omega arith;
    }
