-- RULES 13: what check 22 leaves of a list: that it lies inside the record. Contracts on lists that were tested say it.
use Rattle.std.specs.Prelude.{ℕ, ◌≤◌}
use Rattle.items.specs.declared.walk.Rest.{Rest}

-- a list that lies inside a record of m bytes
pub record Lies (m : ℕ) (l : Rest) : Type 0 where
  pub order : l.from ≤ l.to
  pub most : l.to ≤ m
