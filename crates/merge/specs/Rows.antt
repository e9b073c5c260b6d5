-- RULES 27.1, 27.3: two lists of rows made one, and the lowest number that both have with different bytes. In each list
-- the numbers rise from row to row.
use Rattle.std.specs.Prelude.{ℕ, List, [], ◌∷◌, Bool, false, not, bytes_eq, eqb, ltb, Option, Some, None}
use Rattle.fields.specs.Pick.{pick}
use Rattle.fields.specs.declared.RecordNumber.{RecordNumber}
use Rattle.table.specs.Held.{Held, record_in}

-- a row put in its place: before the first row with a higher number, and in the place of the one with its own
unfoldable pub put : Held → List Held → List Held
put r [] = r ∷ []
put r (s ∷ ss) =
    pick (ltb r.number.0 s.number.0) (r ∷ (s ∷ ss)) (pick (eqb r.number.0 s.number.0) (r ∷ ss) (s ∷ put r ss))

-- the rows of the second, and each row of the first in its place among them
unfoldable pub merged : List Held → List Held → List Held
merged [] ys = ys
merged (x ∷ xs) ys = put x (merged xs ys)

-- whether two records are unlike, and whether there is one that is unlike another
abbrev pub unlike : List ℕ → List ℕ → Bool
unlike a b = not (bytes_eq a b)

abbrev pub differs : Option (List ℕ) → List ℕ → Bool
differs None b = false
differs (Some a) b = unlike a b

-- the first row of the second whose record the first has with other bytes
unfoldable pub clash : List Held → List Held → Option RecordNumber
clash xs [] = None
clash xs (y ∷ ys) = pick (differs (record_in xs y.number) y.bytes) (Some y.number) (clash xs ys)
