-- What a pass over both directories comes to. Only contracts of this crate's own speak of it.
use Rattle.std.specs.Prelude.{ℕ, List, length, Result, Ok}
use Rattle.table.specs.Held.{Held, held_of}
use Rattle.merge.specs.Rows.{clash}
use Rattle.merge.specs.Merge.{agreed, place_in, rows_of}
use Rattle.merge.specs.declared.Pair.{Pair}
use Rattle.merge.specs.declared.unmerged.Unmerged.{Unmerged}

-- the rows of a pair's table
abbrev pub rows_of_pair : Pair → List Held
rows_of_pair p = rows_of p.first.bytes.now p.second.bytes.now

-- 33, or how many rows they are
abbrev pub judged_of : Pair → Result ℕ Unmerged
judged_of p =
    agreed (place_in p.second.bytes.now) (clash (held_of p.first.bytes.now) (held_of p.second.bytes.now))
    (Ok (length (rows_of_pair p)))
