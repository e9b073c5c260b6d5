-- The parts were put to the front of a blank array.
use Rattle.std.proofs.Common.{refl}
use Rattle.table.specs.Held.{record_of}
use Rattle.parts.specs.Parts.{parts_of}
use Rattle.parts.specs.Filled.{blank_parts}
use Rattle.parts.proofs.Puts.{collects}
use Rattle.parts.proofs.collect.Goals as goal

pub returns : goal.returns
unfolding blank_parts
returns c =
    collects (λ room. parts_of c.args.file.now.base.bytes.now c.args.file.now.base.number
    (record_of c.args.file.now.table.bytes.now) room c.args.rest)
    c.args.room _ _ _ c.fill-filled.result c.min.ensures refl c.fill-filled.ensures.parts c.fill-filled.ensures.fits
