-- Bounds on reads, so that sums of them fit; not the least ones.
use Rattle.std.specs.Prelude.{ℕ}

-- a call of the walk with its parts reads at most so many for each that it takes off what is left
abbrev pub most_at_once : ℕ
most_at_once = 1052929

-- and a listing begins with at most 8,192 left
abbrev pub most_in_all : ℕ
most_in_all = 8625594368
