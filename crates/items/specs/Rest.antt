-- RULES 14: what an iterator over items has left.
use Rattle.std.specs.Prelude.{List, [], Option, Some, None}
use Rattle.fields.specs.Answer.{Outcome}
use Rattle.table.specs.Held.{record_of}
use Rattle.items.specs.Calls.{items_from}
use Rattle.items.specs.declared.File.{File}
use Rattle.items.specs.declared.walk.Item.{Item}
use Rattle.items.specs.declared.walk.State.{State}
use Rattle.items.specs.declared.iterate.Items.{Items}

abbrev pub items_at : File → Option State → List (Outcome Item)
items_at f (Some w) = items_from f.base.bytes.now f.base.number (record_of f.table.bytes.now) w
items_at f None = []

abbrev pub rest : Items → List (Outcome Item)
rest i = items_at i.file i.state
