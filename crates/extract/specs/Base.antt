-- RULES 23.10: the base row of a table that is made of an extract.
use Rattle.std.specs.Prelude.{ℕ, suc, List, [], ◌∷◌, length, eqb, Option, Some, None}
use Rattle.fields.specs.Pick.{pick}
use Rattle.fields.specs.declared.RecordNumber.{RecordNumber}
use Rattle.table.specs.Held.{Held}

-- which of these rows has a number: as many as there are where none has it
unfoldable pub row_of : RecordNumber → List Held → ℕ
row_of n [] = 0
row_of n (r ∷ rs) = pick (eqb r.number.0 n.0) 0 (suc (row_of n rs))

-- the base row, by the number that is asked for
abbrev pub base_in : Option RecordNumber → List Held → ℕ
base_in None rows = length rows
base_in (Some n) rows = row_of n rows
