-- RULES 21: one run, at byte 0 of the run bytes that are left.
use Rattle.std.specs.Prelude.{ℕ, ◌+◌, ◌-◌, ◌*◌, ◌/◌, ◌%◌, ◌^◌, Bool, ◌||◌, List, length, get_or, ltb, eqb}
use Rattle.std.specs.Prelude.{Option, Some, None}
use Rattle.fields.specs.Pick.{pick}
use Rattle.fields.specs.Le.{le}
use Rattle.fields.specs.Answer.{Answer, gives, ends, refuses, refusal}
use Rattle.fields.specs.declared.RecordNumber.{RecordNumber}
use Rattle.fields.specs.declared.Cause.{Cause}
use Rattle.fields.specs.declared.Cause.TheVariants.{RunSize, RunCut, RunEmpty, RunRange}
use Rattle.runs.specs.declared.run.Run.{Run}
use Rattle.runs.specs.declared.run.Run.TheVariants.{Clusters, Hole}
use Rattle.runs.specs.declared.run.Carried.{Carried}

-- 21.2: the header byte's low four bits are the size of the length, its high four that of the distance
abbrev pub length_size : ℕ → ℕ
length_size head = head % 16

abbrev pub distance_size : ℕ → ℕ
distance_size head = head / 16

abbrev pub run_size : ℕ → ℕ
run_size head = 1 + length_size head + distance_size head

-- a number takes 8 bytes at most
abbrev pub widest : ℕ
widest = 8

-- 21.5: a start and a sum of lengths are at most 2^63 - 1
abbrev pub most : ℕ
most = 9223372036854775807

abbrev pub in_range : ℕ → Option ℕ
in_range n = pick (ltb most n) None (Some n)

-- 21.3: where the distance in w bytes leads: their upper half stands for distances below 0
unfoldable pub start_of : ℕ → ℕ → ℕ → Option ℕ
start_of w d last =
    pick (ltb (2 * d) (256 ^ w)) (in_range (last + d))
    (pick (ltb (last + d) (256 ^ w)) None (in_range (last + d - 256 ^ w)))

-- the check of the sizes
abbrev pub are_bad : ℕ → Bool
are_bad head = ltb widest (length_size head) || ltb widest (distance_size head) || eqb (length_size head) 0

-- the first byte, or 0 where nothing is left
abbrev pub head : List ℕ → ℕ
head rest = get_or rest 0 0

-- 21.3: the number behind the header
abbrev pub run_length : List ℕ → ℕ
run_length rest = le (length_size (head rest)) rest 1

-- and the bytes of the distance behind that, as a number without a sign
abbrev pub run_distance : List ℕ → ℕ
run_distance rest = le (distance_size (head rest)) rest (1 + length_size (head rest))

module _ (rest : List ℕ) (c : Carried) (file : RecordNumber) (place : ℕ) where
  abbrev pub fault : Cause → Answer Run
  fault cause = refuses (refusal cause file place)

  -- a start that is out of range is 26, and else the run is there
  abbrev pub begun : Option ℕ → Answer Run
  begun None = fault RunRange
  begun (Some s) = gives (Clusters (record { 0 = s }) (run_length rest))

  -- 25, then 26; a hole has no start
  unfoldable pub placed : Answer Run
  placed =
      pick (eqb (run_length rest) 0) (fault RunEmpty)
      (pick (ltb most (c.sum + run_length rest)) (fault RunRange)
      (pick (eqb (distance_size (head rest)) 0) (gives (Hole (run_length rest)))
      (begun (start_of (distance_size (head rest)) (run_distance rest) c.last))))

  -- nothing left, or a header of 0: the end; then 23, then 24
  unfoldable pub run_of : Answer Run
  run_of =
      pick (eqb (length rest) 0) ends
      (pick (eqb (head rest) 0) ends
      (pick (are_bad (head rest)) (fault RunSize)
      (pick (ltb (length rest) (run_size (head rest))) (fault RunCut) placed)))

-- 21.6: what goes to the next run, and how many bytes this one takes
abbrev pub carried_after : Carried → Answer Run → Carried
carried_after c (gives (Clusters s l)) = record { last = s.0; sum = c.sum + l }
carried_after c (gives (Hole l)) = record { last = c.last; sum = c.sum + l }
carried_after c ends = c
carried_after c (refuses r) = c

abbrev pub taken_by : List ℕ → Answer Run → ℕ
taken_by rest (gives r) = run_size (head rest)
taken_by rest ends = 0
taken_by rest (refuses r) = 0
