-- RULES 20: both sides of each line of a run, as one table: what is carried, the bytes, and the list that they give.
use Rattle.std.specs.Prelude.{ℕ, ◌≡◌, List, [], ◌∷◌, ◌++◌, map}
use Rattle.fields.specs.Answer.{Outcome, gives, refuses, refusal}
use Rattle.fields.specs.declared.RecordNumber.{RecordNumber}
use Rattle.fields.specs.declared.Cause.{Cause}
use Rattle.fields.specs.declared.Cause.TheVariants.{RunSize, RunCut, RunEmpty, RunRange}
use Rattle.runs.specs.Run.{most}
use Rattle.runs.specs.Runs.{runs_from}
use Rattle.runs.specs.declared.run.Run.{Run}
use Rattle.runs.specs.declared.run.Run.TheVariants.{Clusters, Hole}
use Rattle.runs.specs.declared.run.Carried.{Carried}

pub record Row : Type 0 where
  pub carried : Carried
  pub bytes : List ℕ
  pub says : List (Outcome Run)

abbrev pub carried : ℕ → ℕ → Carried
carried last sum = record { last = last; sum = sum }

abbrev pub row_behind : Carried → List ℕ → List (Outcome Run) → Row
row_behind c bytes says = record { carried = c; bytes = bytes; says = says }

-- at the first run
abbrev pub row : List ℕ → List (Outcome Run) → Row
row = row_behind (carried 0 0)

-- every case is asked of record 40, where the bytes stand at 64
abbrev pub number : RecordNumber
number = record { 0 = 40 }

abbrev pub place : ℕ
place = 64

-- so many clusters from a start on, and a hole of so many
abbrev pub run : ℕ → ℕ → Outcome Run
run start length = gives (Clusters (record { 0 = start }) length)

abbrev pub hole : ℕ → Outcome Run
hole length = gives (Hole length)

abbrev pub refused : Cause → ℕ → List (Outcome Run)
refused cause at = refuses (refusal cause number at) ∷ []

-- 1 and 2^63 - 1 in 8 bytes
abbrev pub one : List ℕ
one = 0x01 ∷ 0 ∷ 0 ∷ 0 ∷ 0 ∷ 0 ∷ 0 ∷ 0 ∷ []

abbrev pub greatest : List ℕ
greatest = 0xFF ∷ 0xFF ∷ 0xFF ∷ 0xFF ∷ 0xFF ∷ 0xFF ∷ 0xFF ∷ 0x7F ∷ []

-- more than a state may come to, 2^64 - 1
abbrev pub forged : ℕ
forged = 0xFFFFFFFFFFFFFFFF

abbrev pub rows : List Row
rows =
    -- 5 clusters at 10, then 3 at 8; the end by a zero, whatever stands behind it, and where nothing is left
    row (0x11 ∷ 0x05 ∷ 0x0A ∷ 0x11 ∷ 0x03 ∷ 0xFE ∷ 0x00 ∷ []) (run 10 5 ∷ run 8 3 ∷ [])
    ∷ row (0x11 ∷ 0x05 ∷ 0x0A ∷ 0x11 ∷ 0x03 ∷ 0xFE ∷ []) (run 10 5 ∷ run 8 3 ∷ [])
    ∷ row (0x00 ∷ 0x19 ∷ []) []
    ∷ row [] []
    -- sizes of 9 and a length of none give 23; sizes of 8 are given
    ∷ row (0x19 ∷ (one ++ (0x00 ∷ 0x0A ∷ []))) (refused RunSize 64)
    ∷ row (0x91 ∷ 0x05 ∷ (one ++ (0x00 ∷ []))) (refused RunSize 64)
    ∷ row (0x10 ∷ 0x0A ∷ []) (refused RunSize 64)
    ∷ row (0x18 ∷ (one ++ (0x0A ∷ []))) (run 10 1 ∷ [])
    ∷ row (0x88 ∷ (one ++ one)) (run 1 1 ∷ [])
    -- one byte too few gives 24
    ∷ row (0x11 ∷ 0x05 ∷ []) (refused RunCut 64)
    ∷ row (0x11 ∷ 0x05 ∷ 0x0A ∷ []) (run 10 5 ∷ [])
    ∷ row (0x01 ∷ []) (refused RunCut 64)
    ∷ row (0x01 ∷ 0x05 ∷ []) (hole 5 ∷ [])
    -- a length of 0 gives 25
    ∷ row (0x11 ∷ 0x00 ∷ 0x0A ∷ []) (refused RunEmpty 64)
    ∷ row (0x01 ∷ 0x00 ∷ []) (refused RunEmpty 64)
    -- 23 comes before 24, 24 before 25, 25 before 26
    ∷ row (0x19 ∷ []) (refused RunSize 64)
    ∷ row (0x11 ∷ 0x00 ∷ []) (refused RunCut 64)
    ∷ row (0x11 ∷ 0x00 ∷ 0xFF ∷ []) (refused RunEmpty 64)
    ∷ row_behind (carried 0 forged) (0x01 ∷ 0x00 ∷ []) (refused RunEmpty 64)
    -- a start of -1 gives 26; one of 0 is no hole
    ∷ row (0x11 ∷ 0x05 ∷ 0xFF ∷ []) (refused RunRange 64)
    ∷ row (0x11 ∷ 0x05 ∷ 0x00 ∷ []) (run 0 5 ∷ [])
    -- a start of 2^63 - 1 is given, and one more gives 26, at the second run's place
    ∷ row (0x81 ∷ 0x01 ∷ (greatest ++ (0x11 ∷ 0x01 ∷ 0x01 ∷ []))) (run most 1 ∷ refused RunRange 74)
    -- and so with a sum of lengths, in which holes count
    ∷ row (0x18 ∷ (greatest ++ (0x0A ∷ 0x01 ∷ 0x01 ∷ []))) (run 10 most ∷ refused RunRange 74)
    ∷ row (0x08 ∷ (greatest ++ (0x01 ∷ 0x01 ∷ []))) (hole most ∷ refused RunRange 73)
    -- a hole doesn't move the start, nor does a distance of 0
    ∷ row (0x11 ∷ 0x05 ∷ 0x0A ∷ 0x01 ∷ 0x03 ∷ 0x11 ∷ 0x02 ∷ 0x01 ∷ []) (run 10 5 ∷ hole 3 ∷ run 11 2 ∷ [])
    ∷ row (0x11 ∷ 0x05 ∷ 0x0A ∷ 0x11 ∷ 0x03 ∷ 0x00 ∷ []) (run 10 5 ∷ run 10 3 ∷ [])
    -- 127 ahead, 128 back; 256 back in two bytes
    ∷ row (0x11 ∷ 0x05 ∷ 0x7F ∷ []) (run 127 5 ∷ [])
    ∷ row_behind (carried 128 0) (0x11 ∷ 0x05 ∷ 0x80 ∷ []) (run 0 5 ∷ [])
    ∷ row (0x21 ∷ 0x05 ∷ 0x00 ∷ 0x02 ∷ 0x21 ∷ 0x03 ∷ 0x00 ∷ 0xFF ∷ []) (run 512 5 ∷ run 256 3 ∷ [])
    -- a hole comes behind any last start, and behind no sum that is too much
    ∷ row_behind (carried forged 0) (0x01 ∷ 0x05 ∷ []) (hole 5 ∷ [])
    ∷ row_behind (carried 0 forged) (0x01 ∷ 0x05 ∷ []) (refused RunRange 64)
    ∷ []

-- each gives so
abbrev pub BothSides : Type 0
BothSides = map (λ r. runs_from number r.bytes r.carried place) rows ≡ map (λ r. r.says) rows
