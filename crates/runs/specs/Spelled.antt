-- RULES 21.2 to 21.5, the other way: the bytes that stand for a list of runs, as the laws write them.
use Rattle.std.specs.Prelude.{ℕ, zero, suc, ◌+◌, ◌-◌, ◌*◌, ◌^◌, ◌<◌, ◌≤◌, ◌≡◌, Bool, ◌&&◌, leb, ltb}
use Rattle.std.specs.Prelude.{List, [], ◌∷◌, ◌++◌, map}
use Rattle.fields.specs.Pick.{pick}
use Rattle.fields.specs.LeBytes.{le_bytes}
use Rattle.fields.specs.Answer.{Outcome, gives}
use Rattle.runs.specs.Run.{widest, most}
use Rattle.runs.specs.declared.run.Run.{Run}
use Rattle.runs.specs.declared.run.Run.TheVariants.{Clusters, Hole}
use Rattle.runs.specs.declared.run.Carried.{Carried}

-- the distance from the last start to this one in w bytes: one below 0 counts back from 256 to the w
unfoldable pub distance : ℕ → ℕ → ℕ → ℕ
distance w last start = pick (leb last start) (start - last) (256 ^ w + start - last)

-- w bytes stand for as many distances from 0 on as below 0: a half ahead, a half back
pub record Reaches (w last start : ℕ) : Type 0 where
  pub ahead : 2 * (start - last) < 256 ^ w
  pub back : 2 * (last - start) ≤ 256 ^ w

-- how many clusters a run has
abbrev pub clusters : Run → ℕ
clusters (Clusters s l) = l
clusters (Hole l) = l

-- a run with the sizes that it is written in: how many bytes its length takes, and how many its distance
pub record Sized : Type 0 where
  pub run : Run
  pub length_size : ℕ
  pub distance_size : ℕ

-- a hole has no distance
abbrev pub distance_bytes : Carried → Run → ℕ → List ℕ
distance_bytes c (Clusters s l) w = le_bytes w (distance w c.last s.0)
distance_bytes c (Hole l) w = []

-- the header byte, the length, the distance
unfoldable pub spell : Carried → Sized → List ℕ
spell c x =
    (x.length_size + 16 * x.distance_size)
    ∷ (le_bytes x.length_size (clusters x.run) ++ distance_bytes c x.run x.distance_size)

-- what goes on behind a run: its start, or the last one where it is a hole, and the sum of all lengths
abbrev pub start_behind : ℕ → Run → ℕ
start_behind last (Clusters s l) = s.0
start_behind last (Hole l) = last

abbrev pub behind_run : Carried → Run → Carried
behind_run c r = record { last = start_behind c.last r; sum = c.sum + clusters r }

unfoldable pub behind_all : Carried → List Sized → Carried
behind_all c [] = c
behind_all c (x ∷ xs) = behind_all (behind_run c x.run) xs

-- runs one behind the other
unfoldable pub spelled : Carried → List Sized → List ℕ
spelled c [] = []
spelled c (x ∷ xs) = spell c x ++ spelled (behind_run c x.run) xs

-- and what they give
abbrev pub runs_in : List Sized → List (Outcome Run)
runs_in xs = map (λ x. gives x.run) xs

-- a start that can be written in w bytes
pub record Starts (w last start : ℕ) : Type 0 where
  pub some : 1 ≤ w
  pub narrow : w ≤ widest
  pub reaches : Reaches w last start
  pub ranges : start ≤ most

abbrev pub StartFits : Carried → Run → ℕ → Type 0
StartFits c (Clusters s l) w = Starts w c.last s.0
StartFits c (Hole l) w = w ≡ 0

-- a run that can be written in its sizes
pub record CanWrite (c : Carried) (x : Sized) : Type 0 where
  pub full : 0 < clusters x.run
  pub some : 1 ≤ x.length_size
  pub narrow : x.length_size ≤ widest
  pub fits : clusters x.run < 256 ^ x.length_size
  pub start : StartFits c x.run x.distance_size
  pub sum : c.sum + clusters x.run ≤ most

abbrev pub CanWriteAll : Carried → List Sized → Type 0
CanWriteAll c [] = Unit {0}
CanWriteAll c (x ∷ xs) = CanWrite c x × CanWriteAll (behind_run c x.run) xs

-- the first of the sizes from w on that passes a test, or else the one that is k above w
unfoldable pub first_size : (ℕ → Bool) → ℕ → ℕ → ℕ
first_size passes w zero = w
first_size passes w (suc k) = pick (passes w) w (first_size passes (suc w) k)

-- the least sizes of a length and of a distance, from 1 to 8
unfoldable pub least_length : ℕ → ℕ
least_length n = first_size (λ w. ltb n (256 ^ w)) 1 7

unfoldable pub least_distance : ℕ → ℕ → ℕ
least_distance last start =
    first_size (λ w. ltb (2 * (start - last)) (256 ^ w) && leb (2 * (last - start)) (256 ^ w)) 1 7

abbrev pub start_size : Carried → Run → ℕ
start_size c (Clusters s l) = least_distance c.last s.0
start_size c (Hole l) = 0

abbrev pub least_sized : Carried → Run → Sized
least_sized c r = record { run = r; length_size = least_length (clusters r); distance_size = start_size c r }

-- a run that can be written at all
abbrev pub StartRanges : Run → Type 0
StartRanges (Clusters s l) = s.0 ≤ most
StartRanges (Hole l) = Unit {0}

pub record Writable (c : Carried) (r : Run) : Type 0 where
  pub full : 0 < clusters r
  pub start : StartRanges r
  pub sum : c.sum + clusters r ≤ most
  pub last : c.last ≤ most
