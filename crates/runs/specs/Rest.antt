-- RULES 21.7: what an iterator over runs has left.
use Rattle.std.specs.Prelude.{List}
use Rattle.fields.specs.Answer.{Outcome}
use Rattle.runs.specs.Runs.{runs_from}
use Rattle.runs.specs.declared.run.Run.{Run}
use Rattle.runs.specs.declared.iterate.Runs.{Runs}

abbrev pub rest : Runs → List (Outcome Run)
rest i = runs_from i.file i.left.now i.carried i.place
