-- The checker computes the definition's answer to each case.
use Rattle.std.proofs.Common.{refl}
use Rattle.fields.specs.Le.{le}
use Rattle.fields.specs.LeBytes.{le_bytes}
use Rattle.fields.specs.Known.{attribute_flags}
use Rattle.fields.specs.Trail.{behind, run, trail}
use Rattle.list.specs.Entry.{entry_at, entry_of}
use Rattle.record.specs.Header.{header_of, first_attribute, used_size}
use Rattle.record.specs.Open.{is_file, check_used, check_file}
use Rattle.record.specs.Attribute.{attribute_at, checked_at}
use Rattle.record.specs.Walk.{step_at, walk_from, attributes_of}
use Rattle.record.specs.View.{piece_of}
use Rattle.record.specs.Value.{resident_at, full_in, resident_in, list_after, list_in}
use Rattle.items.specs.Lookup.{opened_as, held_by, lookup_of}
use Rattle.items.specs.Items.{entries_of}
use Rattle.references.specs.Entries.{before, list_entries, entries_by, all_entries}
use Rattle.references.specs.References.{among, one_more, told_by, references_of}
use Rattle.segments.specs.Base.{base_reference_of, is_zero, is_in_use, is_base_in_use, fits, is_back}
use Rattle.segments.specs.Placed.{placed, list_placed, placed_by, all_placed}
use Rattle.segments.specs.Hazards.{record_hazards, sequence_hazards, entry_hazards, entries_hazards, listed_hazards}
use Rattle.segments.specs.Hazards.{found_hazards, number_hazards, referred_hazards, hazards_of}
use Rattle.segments.specs.Cases.{BaseRecords, HazardsTold}

pub base_records : BaseRecords
unfolding le le_bytes header_of base_reference_of is_zero is_in_use is_base_in_use
base_records = refl

pub hazards_told : HazardsTold
unfolding le le_bytes attribute_flags behind run trail entry_at entry_of header_of first_attribute used_size is_file
    check_used check_file attribute_at checked_at step_at walk_from attributes_of piece_of resident_at full_in
    resident_in list_after list_in opened_as held_by lookup_of entries_of before list_entries entries_by all_entries
    among one_more told_by references_of base_reference_of is_zero is_in_use fits is_back placed list_placed placed_by
    all_placed record_hazards sequence_hazards entry_hazards entries_hazards listed_hazards found_hazards
    number_hazards referred_hazards hazards_of
hazards_told = refl
