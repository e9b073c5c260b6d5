-- RULES 5: the raw walk. One step of it, and the walk as a whole.
use Rattle.std.specs.Prelude.{ℕ, ◌-◌, List, length, ltb, eqb}
use Rattle.fields.specs.Pick.{pick}
use Rattle.fields.specs.Le.{le}
use Rattle.fields.specs.Answer.{Outcome, Answer, ends, unended}
use Rattle.fields.specs.Known.{end_marker}
use Rattle.fields.specs.Trail.{trail}
use Rattle.fields.specs.declared.RecordNumber.{RecordNumber}
use Rattle.record.specs.Header.{first_attribute}
use Rattle.record.specs.Attribute.{checked_at}
use Rattle.record.specs.declared.layout.Attribute.{Attribute}

-- under 4 bytes left, or the end marker: the end; else the attribute there, by 3, 4, 5 and 28
unfoldable pub step_at : List ℕ → RecordNumber → ℕ → Answer Attribute
step_at s n at =
    pick (ltb (length s - at) 4) ends
    (pick (eqb (le 4 s at) end_marker) ends
    (unended (checked_at s n at)))

-- from a place on, each time further by the attribute's length
unfoldable pub walk_from : List ℕ → RecordNumber → ℕ → List (Outcome Attribute)
walk_from s n at = trail (step_at s n) (λ h. h.length) (length s) at

-- the attributes of a record, in the order of the walk, and a refusal where one stops it
unfoldable pub attributes_of : List ℕ → RecordNumber → List (Outcome Attribute)
attributes_of s n = walk_from s n (first_attribute s)
