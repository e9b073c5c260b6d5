-- The checker computes the definition's answer to each case.
use Rattle.std.proofs.Common.{refl}
use Rattle.fields.specs.Le.{le}
use Rattle.fields.specs.LeBytes.{le_bytes}
use Rattle.fields.specs.Known.{attribute_flags}
use Rattle.fields.specs.Trail.{behind, run, trail}
use Rattle.list.specs.Entry.{entry_at, entry_of}
use Rattle.record.specs.Header.{first_attribute, used_size}
use Rattle.record.specs.Attribute.{attribute_at, checked_at}
use Rattle.record.specs.Walk.{step_at, walk_from, attributes_of}
use Rattle.record.specs.View.{piece_of}
use Rattle.record.specs.Value.{resident_at, full_in, resident_in, list_after, list_in}
use Rattle.items.specs.Items.{entries_of}
use Rattle.references.specs.Entries.{before, list_entries, entries_by, all_entries}
use Rattle.references.specs.References.{among, one_more, told_by, references_of}
use Rattle.references.specs.Rising.{placed, sorted}
use Rattle.references.specs.Cases.{ReferencesTold, Sorted}

pub references_told : ReferencesTold
unfolding le le_bytes attribute_flags behind run trail entry_at entry_of first_attribute used_size attribute_at
    checked_at step_at walk_from attributes_of piece_of resident_at full_in resident_in list_after list_in entries_of
    before list_entries entries_by all_entries among one_more told_by references_of
references_told = refl

pub sorted_so : Sorted
unfolding placed sorted
sorted_so = refl
