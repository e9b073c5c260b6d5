-- What a record's values tell: a record its bytes and its number, some bytes of it where they start, and a value its
-- bytes or its runs.
pub use Rattle.record.specs.Open.{Lent, lent}
use Rattle.record.specs.View.{Piece}
use Rattle.record.specs.Value.{Contents, resident, runs}
use Rattle.record.specs.declared.Record.{Record}
use Rattle.record.specs.declared.layout.Attribute.{Attribute}
use Rattle.record.specs.declared.values.Located.{Located}
use Rattle.record.specs.declared.values.View.{View}
use Rattle.record.specs.declared.values.Value.{Value}
use Rattle.record.specs.declared.values.Value.TheVariants.{Resident, Runs}

abbrev pub shown_record : Record → Lent
shown_record r = lent r.bytes.now r.number

-- an attribute with its record, which the caller has
abbrev pub attribute_of : Located → Attribute
attribute_of l = l.attribute

abbrev pub piece : View → Piece
piece v = record { from = v.from; bytes = v.bytes.now }

abbrev pub shown_value : Value → Contents
shown_value (Resident v) = resident (piece v)
shown_value (Runs v size) = runs (piece v) size
