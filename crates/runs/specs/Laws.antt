-- What holds of the runs whatever the bytes; src/laws.rt has the functions whose contracts these are.
use Rattle.std.specs.Prelude.{ℕ, suc, ◌+◌, ◌*◌, ◌^◌, ◌<◌, ◌≤◌, ◌≡◌}
use Rattle.std.specs.Prelude.{List, [], ◌∷◌, ◌++◌, length, drop, get_or, Some, None, Ok, Err}
use Rattle.fields.specs.Answer.{Outcome, gives, refuses}
use Rattle.fields.specs.Told.{told_step}
use Rattle.fields.specs.declared.RecordNumber.{RecordNumber}
use Rattle.fields.specs.declared.Refusal.{Refusal}
use Rattle.runs.specs.Run.{most, start_of, head, run_of, carried_after, taken_by}
use Rattle.runs.specs.Runs.{runs_by, runs_from}
use Rattle.runs.specs.Spelled.{distance, Reaches, Sized, spelled, behind_all, runs_in, CanWrite, CanWriteAll}
use Rattle.runs.specs.Spelled.{least_sized, Writable}
use Rattle.runs.specs.declared.run.Run.{Run}
use Rattle.runs.specs.declared.run.Carried.{Carried}
use Rattle.runs.specs.declared.run.Decoded.{Decoded}

-- what the step promises, every clause of it
pub record Steps (file : RecordNumber) (rest : List ℕ) (c : Carried) (place : ℕ) (d : Decoded) : Type 0 where
  pub answer : told_step d.answer ≡ run_of rest c file place
  pub carried : d.carried ≡ carried_after c (run_of rest c file place)
  pub taken : d.taken ≡ taken_by rest (run_of rest c file place)

-- RULES 2: two results of one step are equal
abbrev pub StepsSettle : Type 0
StepsSettle = (file : RecordNumber) (rest : List ℕ) (c : Carried) (place : ℕ) (d e : Decoded)
    → Steps file rest c place d → Steps file rest c place e → d ≡ e

-- calls of the step one behind the other, each handed what the one before left, and what they give, until one answers
-- the end or a refusal
pub data Calls (file : RecordNumber) : List ℕ → Carried → ℕ → List (Outcome Run) → Type 0 where
  gave : {rest : List ℕ} {c : Carried} {place : ℕ} {xs : List (Outcome Run)} (d : Decoded) (r : Run)
      → Steps file rest c place d → d.answer ≡ Ok (Some r)
      → Calls file (drop d.taken rest) d.carried (place + d.taken) xs → Calls file rest c place (gives r ∷ xs)
  ended : {rest : List ℕ} {c : Carried} {place : ℕ} (d : Decoded)
      → Steps file rest c place d → d.answer ≡ Ok None → Calls file rest c place []
  refused : {rest : List ℕ} {c : Carried} {place : ℕ} (d : Decoded) (r : Refusal)
      → Steps file rest c place d → d.answer ≡ Err r → Calls file rest c place (refuses r ∷ [])

-- RULES 21.7: they give the runs that are left, and nothing else
abbrev pub CallsGiveTheRuns : Type 0
CallsGiveTheRuns = (file : RecordNumber) (rest : List ℕ) (c : Carried) (place : ℕ) (xs : List (Outcome Run))
    → Calls file rest c place xs → xs ≡ runs_from file rest c place

-- from wherever one begins, such calls there are
abbrev pub CallsCanBeMade : Type 0
CallsCanBeMade = (file : RecordNumber) (rest : List ℕ) (c : Carried) (place : ℕ)
    → Calls file rest c place (runs_from file rest c place)

-- and they end: as many steps as there are bytes, and one more, are all of it; further ones change nothing
abbrev pub RunsEnd : Type 0
RunsEnd = (file : RecordNumber) (rest : List ℕ) (c : Carried) (place f : ℕ) → length rest < f
    → runs_by file f rest c place ≡ runs_from file rest c place

-- how many of them are runs
abbrev pub runs_given : List (Outcome Run) → ℕ
runs_given [] = 0
runs_given (gives r ∷ xs) = suc (runs_given xs)
runs_given (refuses r ∷ xs) = runs_given xs

-- a run takes two bytes at least
abbrev pub RunsAreFew : Type 0
RunsAreFew = (file : RecordNumber) (rest : List ℕ) (c : Carried) (place : ℕ)
    → 2 * runs_given (runs_from file rest c place) ≤ length rest

-- RULES 21.6: the end and a refusal take nothing, and leave what was carried
pub record Stays (c : Carried) (d : Decoded) : Type 0 where
  pub carried : d.carried ≡ c
  pub taken : d.taken ≡ 0

abbrev pub EndsStay : Type 0
EndsStay = (file : RecordNumber) (rest : List ℕ) (c : Carried) (place : ℕ) (d : Decoded) → Steps file rest c place d
    → d.answer ≡ Ok None → Stays c d

abbrev pub RefusalsStay : Type 0
RefusalsStay = (file : RecordNumber) (rest : List ℕ) (c : Carried) (place : ℕ) (d : Decoded) (r : Refusal)
    → Steps file rest c place d → d.answer ≡ Err r → Stays c d

-- RULES 21.3: a distance that w bytes reach leads back to the start, at every width; and each number of w bytes that
-- leads to a start is the distance to it
abbrev pub DistancesLeadBack : Type 0
DistancesLeadBack = (w last start : ℕ) → Reaches w last start → start ≤ most
    → start_of w (distance w last start) last ≡ Some start

pub record LeadsTo (w d last start : ℕ) : Type 0 where
  pub reaches : Reaches w last start
  pub distance : distance w last start ≡ d
  pub ranges : start ≤ most

abbrev pub StartsLieSoFar : Type 0
StartsLieSoFar = (w d last start : ℕ) → d < 256 ^ w → start_of w d last ≡ Some start → LeadsTo w d last start

-- RULES 21: runs are read as they were written, in whatever sizes they fit; behind them stands nothing, or a zero
abbrev pub ReadAsWritten : Type 0
ReadAsWritten = (file : RecordNumber) (xs : List Sized) (more : List ℕ) (c : Carried) (place : ℕ) → CanWriteAll c xs
    → head more ≡ 0 → runs_from file (spelled c xs ++ more) c place ≡ runs_in xs

-- every run that can be written at all fits its least sizes, and no smaller ones
pub record FitsLeast (c : Carried) (r : Run) : Type 0 where
  pub fits : CanWrite c (least_sized c r)
  pub length : (x : Sized) → CanWrite c x → x.run ≡ r → (least_sized c r).length_size ≤ x.length_size
  pub distance : (x : Sized) → CanWrite c x → x.run ≡ r → (least_sized c r).distance_size ≤ x.distance_size

abbrev pub LeastSizesFit : Type 0
LeastSizesFit = (c : Carried) (r : Run) → Writable c r → FitsLeast c r

-- what stops at once: the end, or a refusal
abbrev pub Stopped : List (Outcome Run) → Type 0
Stopped [] = Unit {0}
Stopped (refuses r ∷ xs) = xs ≡ []
Stopped (gives r ∷ xs) = ⊥

-- whatever the bytes, the runs that are read are spelled at their front, and what stands behind gives none
pub record SpelledAtFront (file : RecordNumber) (rest : List ℕ) (c : Carried) (place : ℕ) : Type 0 where
  pub front : List Sized
  pub more : List ℕ
  pub bytes : rest ≡ spelled c front ++ more
  pub written : CanWriteAll c front
  pub behind : List (Outcome Run)
  pub left : behind ≡ runs_from file more (behind_all c front) (place + length (spelled c front))
  pub stopped : Stopped behind
  pub given : runs_from file rest c place ≡ runs_in front ++ behind

abbrev pub WhatIsReadIsSpelled : Type 0
WhatIsReadIsSpelled = (file : RecordNumber) (rest : List ℕ) (c : Carried) (place : ℕ)
    → ((k : ℕ) → get_or rest k 0 < 256) → SpelledAtFront file rest c place
