-- The checker computes what the definition gives of each row.
use Rattle.std.proofs.Common.{refl}
use Rattle.fields.specs.Le.{le}
use Rattle.runs.specs.Run.{start_of, placed, run_of}
use Rattle.runs.specs.Runs.{behind, runs_by, runs_from}
use Rattle.runs.specs.Cases.{BothSides}

pub both_sides : BothSides
unfolding le start_of placed run_of behind runs_by runs_from
both_sides = refl
