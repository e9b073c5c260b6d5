-- RULES 24.2: the numbers of the records that a record's lists refer to, in the order of their entries. Each is told
-- once, and the record's own is not.
use Rattle.std.specs.Prelude.{ℕ, ◌||◌, List, [], ◌∷◌, ◌++◌, Bool, false, eqb}
use Rattle.fields.specs.Pick.{pick}
use Rattle.fields.specs.Answer.{Outcome, gives, refuses}
use Rattle.fields.specs.declared.RecordNumber.{RecordNumber}
use Rattle.list.specs.declared.Entry.{Entry}
use Rattle.references.specs.Entries.{all_entries}

-- whether a number is among others
unfoldable pub among : List RecordNumber → RecordNumber → Bool
among [] m = false
among (x ∷ xs) m = eqb x.0 m.0 || among xs m

-- the numbers that were told, and the refusal that stopped the walk, if one did
pub record Told : Type 0 where
  pub numbers : List RecordNumber
  pub answer : Outcome Unit

abbrev pub tells : List RecordNumber → Outcome Unit → Told
tells ms a = record { numbers = ms; answer = a }

module _ (n : RecordNumber) where
  -- numbers told, and one more
  unfoldable pub one_more : List RecordNumber → RecordNumber → List RecordNumber
  one_more ms m = pick (eqb m.0 n.0 || among ms m) ms (ms ++ (m ∷ []))

  unfoldable pub told_by : List RecordNumber → List (Outcome Entry) → Told
  told_by ms [] = tells ms (gives tt)
  told_by ms (refuses r ∷ es) = tells ms (refuses r)
  told_by ms (gives e ∷ es) = told_by (one_more ms e.file) es

unfoldable pub references_of : List ℕ → RecordNumber → Told
references_of s n = told_by n [] (all_entries s n)
