-- RULES 26.3: what an iterator over names has left, and an item of it.
use Rattle.std.specs.Prelude.{ℕ, List}
use Rattle.std.specs.Borrow.{Bor}
use Rattle.table.specs.Held.{record_of}
use Rattle.items.specs.Rest as items
use Rattle.filename.specs.Names.{names_in}
use Rattle.filename.specs.declared.iterate.Names.{Names}

abbrev pub rest : Names → List (List ℕ)
rest m = names_in m.file.base.bytes.now m.file.base.number (record_of m.file.table.bytes.now) (items.rest m.items)

abbrev pub bytes_of : Bor (List ℕ) → List ℕ
bytes_of b = b.now
