-- The checker computes the definition's answer to each row.
use Rattle.std.proofs.Common.{refl}
use Rattle.fields.specs.Le.{le}
use Rattle.fields.specs.LeBytes.{le_bytes}
use Rattle.fields.specs.Length.{good_length}
use Rattle.list.specs.Entry.{entry_at, entry_of}
use Rattle.record.specs.Header.{used_size}
use Rattle.record.specs.Open.{is_file, check_used, check_file, open_of}
use Rattle.record.specs.Attribute.{attribute_at, checked_at}
use Rattle.record.specs.Walk.{step_at}
use Rattle.record.specs.Name.{name_in, name_of}
use Rattle.record.specs.View.{piece_of}
use Rattle.record.specs.Value.{resident_at, full_in, resident_in, value_after, value_in, value_of}
use Rattle.list.specs.Named.{padded}
use Rattle.items.specs.Key.{continues}
use Rattle.items.specs.Lines.{BothSides, Joined}

pub both_sides : BothSides
unfolding le le_bytes is_file good_length used_size check_used check_file open_of attribute_at checked_at step_at
    name_in name_of
    piece_of resident_at full_in resident_in value_after value_in value_of entry_at entry_of
both_sides = refl

pub joined : Joined
unfolding continues padded
joined = refl
