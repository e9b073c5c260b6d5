-- What one read does, as the loop over reads goes on. Only contracts of the loop's own speak of it.
use Rattle.std.specs.Prelude.{ℕ, ◌≡◌, List, ◌++◌, Option}
use Rattle.std.specs.Io.KnownBytes.{Consumes, IsAtEnd}

-- bytes went from the input to the end of those read before, and none at the input's end alone
pub record Moves (left after : Option (List ℕ)) (old new : List ℕ) (n : ℕ) : Type 0 where
  pub bytes : List ℕ
  pub grown : new ≡ old ++ bytes
  pub taken : Consumes left after bytes
  pub last : n ≡ 0 → IsAtEnd after
