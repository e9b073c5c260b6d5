-- The checker computes the definition's answer to each row.
use Rattle.std.proofs.Common.{refl}
use Rattle.filename.specs.Name.{namespace_of, is_long, name_of}
use Rattle.filename.specs.Cases.{BothSides}

pub both_sides : BothSides
unfolding namespace_of is_long name_of
both_sides = refl
