-- RULES 21.7: the runs of an attribute, one behind the other, and how they end.
use Rattle.std.specs.Prelude.{ℕ, zero, suc, ◌+◌, List, [], ◌∷◌, length, drop}
use Rattle.fields.specs.Answer.{Outcome, Answer, gives, ends, refuses}
use Rattle.fields.specs.declared.RecordNumber.{RecordNumber}
use Rattle.runs.specs.Run.{run_of, carried_after, taken_by}
use Rattle.runs.specs.declared.run.Run.{Run}
use Rattle.runs.specs.declared.run.Carried.{Carried}

-- gives the runs that are left, by their bytes, what is carried and the place
abbrev pub Onward : Type 0
Onward = List ℕ → Carried → ℕ → List (Outcome Run)

module _ (file : RecordNumber) where
  -- what comes of a step's answer, where `on` gives what comes from the next run on; a refusal is the last
  unfoldable pub behind : Onward → List ℕ → Carried → ℕ → Answer Run → List (Outcome Run)
  behind on rest c place (gives r) =
      gives r ∷ on (drop (taken_by rest (gives r)) rest) (carried_after c (gives r)) (place + taken_by rest (gives r))
  behind on rest c place ends = []
  behind on rest c place (refuses r) = refuses r ∷ []

  -- at most f steps
  unfoldable pub runs_by : ℕ → List ℕ → Carried → ℕ → List (Outcome Run)
  runs_by zero rest c place = []
  runs_by (suc f) rest c place = behind (runs_by f) rest c place (run_of rest c file place)

  -- each run takes bytes, so one step more than there are bytes suffices
  unfoldable pub runs_from : List ℕ → Carried → ℕ → List (Outcome Run)
  runs_from rest c place = runs_by (suc (length rest)) rest c place

  -- of all run bytes of an attribute: the last start and the sum begin at 0
  abbrev pub runs_of : List ℕ → ℕ → List (Outcome Run)
  runs_of bytes place = runs_from bytes (record { last = 0; sum = 0 }) place
