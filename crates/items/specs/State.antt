-- RULES 13: where a walk stands, what it passes over, and check 22.
use Rattle.std.specs.Prelude.{ℕ, suc, ◌+◌, ◌-◌, ◌*◌, ◌&&◌, List, Bool, true, take, drop, leb, length}
use Rattle.std.specs.Prelude.{Option, Some, None}
use Rattle.fields.specs.Pick.{pick}
use Rattle.fields.specs.Answer.{Outcome, gives, refuses, refusal}
use Rattle.fields.specs.declared.Cause.TheVariants.{BadState}
use Rattle.fields.specs.declared.RecordNumber.{RecordNumber}
use Rattle.record.specs.Header.{first_attribute}
use Rattle.items.specs.declared.walk.Rest.{Rest}
use Rattle.items.specs.declared.key.Key.{Key}
use Rattle.items.specs.declared.walk.State.{State}

abbrev pub list_at : ℕ → ℕ → Rest
list_at from to = record { from = from; to = to }

abbrev pub state : ℕ → Option Rest → Option Key → State
state raw list key = record { raw = raw; list = list; key = key }

-- a fresh walk is at the first attribute, with no list and no key
unfoldable pub fresh_of : List ℕ → State
fresh_of s = state (first_attribute s) None None

-- the rest of a list, a part of the base record
abbrev pub rest_of : List ℕ → Rest → List ℕ
rest_of s l = take (l.to - l.from) (drop l.from s)

-- a list begins at or before its end, and ends at or before that of a record of m bytes; where none is open there is
-- nothing to test
unfoldable pub lies_in : ℕ → Option Rest → Bool
lies_in m None = true
lies_in m (Some l) = leb l.from l.to && leb l.to m

-- check 22
unfoldable pub inside_of : List ℕ → RecordNumber → Option Rest → Outcome Unit
inside_of s n o = pick (lies_in (length s) o) (gives tt) (refuses (refusal BadState n 0))

-- what is left to read of a record of m bytes: a number that an item lowers
abbrev pub left_in : Option Rest → ℕ
left_in None = 0
left_in (Some l) = suc (l.to - l.from)

abbrev pub weight : ℕ → State → ℕ
weight m w = 2 * (m - w.raw) + left_in w.list
