-- RULES 10: what is told of a record that a table hands out.
use Rattle.std.specs.Prelude.{ℕ, List, Option, option_map}
use Rattle.std.specs.Borrow.{Bor}
use Rattle.fields.specs.declared.RecordNumber.{RecordNumber}
use Rattle.table.specs.Held.{Held}

abbrev pub told_held : Option (RecordNumber × Bor (List ℕ)) → Option Held
told_held o = option_map (λ p. record { number = p.0; bytes = p.1.now }) o
