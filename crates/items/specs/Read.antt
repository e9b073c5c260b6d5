-- RULES 17: one read. Each attribute that passes 3 to 5 and 28 and each entry given is one, each time, in items,
-- lookups and parts.
use Rattle.std.specs.Prelude.{ℕ}
use Rattle.fields.specs.declared.RecordNumber.{RecordNumber}
use Rattle.record.specs.declared.layout.Attribute.{Attribute}
use Rattle.list.specs.declared.Entry.{Entry}

-- an entry's list and its place: a list is told by where the attribute that opened it ends, for there the raw walk
-- stands
pub record Spot : Type 0 where
  pub list : ℕ
  pub place : ℕ

abbrev pub spot : ℕ → ℕ → Spot
spot list place = record { list = list; place = place }

pub data Read : Type 0 where
  -- an attribute of the base record, by the raw walk itself
  own : Attribute → Read
  -- an entry, by the walk
  entry : Spot → Entry → Read
  -- an attribute, by the search in a record that was looked up
  sought : RecordNumber → Attribute → Read
  -- an entry, by the parts of an item; they know its place alone
  joined : ℕ → Entry → Read
