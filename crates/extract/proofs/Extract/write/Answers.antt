use Rattle.extract.proofs.Calls.{long_enough}
use Rattle.extract.proofs.Tallies.{base_asked}
use Rattle.extract.proofs.Extract.write.Goals as goal

pub fill-requires-clause-room : goal.fill-requires-clause-room
fill-requires-clause-room c = long_enough _ _ _ c.in_ok-check_room.ensures

pub fill-requires-clause-base : goal.fill-requires-clause-base
fill-requires-clause-base c =
    base_asked c.args.self.now c.tally-tally.result _ _ c.tally-tally.ensures c.in_ok-of.ensures.shape.0
    c.with_base-shape.ensures.2
