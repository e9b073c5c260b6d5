-- Which of some numbers a table has.
use Rattle.std.specs.Prelude.{ℕ, List, Bool, count_by, is_some}
use Rattle.fields.specs.Answer.{Outcome, gives, refuses}
use Rattle.table.specs.Check.{table_of}
use Rattle.table.specs.Held.{record_of}
use Rattle.table.specs.declared.check.TableHeader.{TableHeader}

-- whether a table has a record with a number
abbrev pub has : List ℕ → ℕ → Bool
has t n = is_some (record_of t (record { 0 = n }))

-- how many of these numbers a table has: none where it is none
abbrev pub held_in : Outcome TableHeader → List ℕ → List ℕ → ℕ
held_in (gives h) t ns = count_by (has t) ns
held_in (refuses r) t ns = 0

abbrev pub held_of : List ℕ → List ℕ → ℕ
held_of t ns = held_in (table_of t) t ns
