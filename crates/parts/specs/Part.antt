-- RULES 15: the part that an entry leads to. It is looked up and found as an item is, then 19, 7 and 12.
use Rattle.std.specs.Prelude.{ℕ, ◌+◌, ◌-◌, List, Option, ltb}
use Rattle.fields.specs.Pick.{pick}
use Rattle.fields.specs.Answer.{Outcome, gives, refuses, refusal, ◌⟫◌}
use Rattle.fields.specs.declared.RecordNumber.{RecordNumber}
use Rattle.fields.specs.declared.Cause.TheVariants.{PartResident, RunsOffset}
use Rattle.list.specs.declared.Entry.{Entry}
use Rattle.record.specs.Open.{Lent}
use Rattle.record.specs.View.{span}
use Rattle.record.specs.Value.{full_in}
use Rattle.record.specs.declared.layout.Attribute.{Attribute}
use Rattle.record.specs.declared.layout.FullHeader.{FullHeader}
use Rattle.record.specs.declared.layout.FullHeader.TheVariants as header
use Rattle.items.specs.Lookup.{lookup_of}
use Rattle.items.specs.Items.{sought_of}
use Rattle.parts.specs.declared.Part.{Part}

-- behind 7, in the record t: 19 or 12, and the part, with the attribute's own lowest VCN
unfoldable pub part_after : Entry → Lent → Attribute → FullHeader → Outcome Part
part_after e t h (header.Resident f) = refuses (refusal PartResident t.number h.offset)
part_after e t h (header.NonResident f) =
    pick (ltb h.length f.runs_offset) (refuses (refusal RunsOffset t.number h.offset))
    (gives (record {
      file = t.number;
      offset = h.offset;
      lowest = f.lowest;
      runs = span (h.offset + f.runs_offset) (h.length - f.runs_offset);
      size = f.size;
      listed = e.lowest;
    }))

-- the attribute found, in the record t: 19 where it is resident, then 7
unfoldable pub part_in : Entry → Lent → Attribute → Outcome Part
part_in e t h = pick h.resident (refuses (refusal PartResident t.number h.offset))
    (full_in t.bytes t.number h ⟫ part_after e t h)

-- the attribute found by the entry, judged in the record that was looked up
unfoldable pub part_of : List ℕ → RecordNumber → (RecordNumber → Option (List ℕ)) → Entry → ℕ → Outcome Part
part_of s n look e place =
    (sought_of s n look e place).answer ⟫ λ h. lookup_of s n look e.file place ⟫ λ t. part_in e t h
