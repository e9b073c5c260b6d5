-- A part of an input.
use Rattle.std.specs.Prelude.{ℕ, ◌≡◌, List, Option, Some, None, take, drop, IfSome}
use Rattle.std.specs.Io.KnownBytes.{Consumes}

-- so many bytes at most; all where no number is told
abbrev pub at_most : Option ℕ → List ℕ → List ℕ
at_most None s = s
at_most (Some n) s = take n s

-- from a place on
abbrev pub part_at : Option ℕ → ℕ → List ℕ → List ℕ
part_at most place s = at_most most (drop place s)

-- the known bytes lose these, which are as many at their front as are wanted
pub record Takes (most : Option ℕ) (old new : Option (List ℕ)) (bytes : List ℕ) : Type 0 where
  pub taken : Consumes old new bytes
  pub front : IfSome old (λ s. bytes ≡ at_most most s)
