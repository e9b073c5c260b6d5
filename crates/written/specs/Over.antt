-- Bytes written over what stood at a place.
use Rattle.std.specs.Prelude.{ℕ, ◌+◌, List, ◌++◌, take, drop, length}

abbrev pub over : ℕ → List ℕ → List ℕ → List ℕ
over at bytes s = take at s ++ (bytes ++ drop (at + length bytes) s)
