-- RULES 3: how long a record may be. A table's record size passes the same test (RULES 10).
use Rattle.std.specs.Prelude.{ℕ, ◌%◌, ◌&&◌, Bool, leb, eqb}

-- from 64 to 4,096 bytes, in steps of 8
unfoldable pub good_length : ℕ → Bool
good_length m = leb 64 m && leb m 4096 && eqb (m % 8) 0
