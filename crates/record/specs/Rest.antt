-- RULES 5: what an iterator over attributes has left.
use Rattle.std.specs.Prelude.{ℕ, List, [], Option, Some, None}
use Rattle.fields.specs.Answer.{Outcome}
use Rattle.fields.specs.declared.RecordNumber.{RecordNumber}
use Rattle.record.specs.Walk.{walk_from}
use Rattle.record.specs.declared.layout.Attribute.{Attribute}
use Rattle.record.specs.declared.attributes.Attributes.{Attributes}

abbrev pub walk_at : List ℕ → RecordNumber → Option ℕ → List (Outcome Attribute)
walk_at s n (Some at) = walk_from s n at
walk_at s n None = []

abbrev pub rest : Attributes → List (Outcome Attribute)
rest i = walk_at i.within.bytes.now i.within.number i.at
