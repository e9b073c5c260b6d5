-- What this crate's calls hand out, in the words of the definition.
use Rattle.std.specs.Prelude.{ℕ, ◌+◌, List, min, Result, Ok, Err}
use Rattle.fields.specs.declared.Refusal.{Refusal}
use Rattle.table.specs.Check.{table_of, most_rows}
use Rattle.written.specs.Layout.{table_length}
use Rattle.merge.specs.Merge.{tested, sizes_checked}
use Rattle.merge.specs.declared.Pair.{Pair}
use Rattle.merge.specs.declared.unmerged.Unmerged.{Unmerged}
use Rattle.merge.specs.declared.unmerged.Unmerged.TheVariants.{First, Second, Clash, Both}

-- the refusal, whoever's fault it is
abbrev pub refusal_of : Unmerged → Refusal
refusal_of (First r) = r
refusal_of (Second r) = r
refusal_of (Clash n r) = r
refusal_of (Both r) = r

-- RULES 27.2: two tables that may be merged: 21 of the first, 21 of the second, then 32
unfoldable pub pair_checked : List ℕ → List ℕ → Result Unit Unmerged
pair_checked s t =
    tested First (table_of s) λ g. tested Second (table_of t) λ h. tested Both (sizes_checked g.size h.size) λ _. Ok tt

abbrev pub told_pair : Result Pair Unmerged → Result Unit Unmerged
told_pair (Ok p) = Ok tt
told_pair (Err why) = Err why

-- RULES 27.5: a buffer that is long enough whatever the records are
abbrev pub room_of : Pair → ℕ
room_of p = table_length p.first.header.size (min (p.first.header.count + p.second.header.count) most_rows)
