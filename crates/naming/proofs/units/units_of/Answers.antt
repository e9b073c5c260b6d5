use Rattle.std.proofs.Common.{rules}
use Rattle.std.specs.Str.Iter.{encode_utf16_rest, encode_utf16_pending}
use Rattle.naming.specs.Units.{units_of}
use Rattle.naming.proofs.Read.{still_text, unit_put, units_put}
use Rattle.naming.proofs.units.units_of.Goals as goal

pub loop-unit-preserved : goal.loop-unit-preserved
loop-unit-preserved c =
    let s = c.loop-unit.unit-iterator in
    let t = c.next.new.self in (
      still_text (encode_utf16_pending s) (encode_utf16_rest s) c.in-Some.unit (encode_utf16_pending t)
          (encode_utf16_rest t) c.loop-unit.invariant.0 c.in-Some.ensures.steps,
      unit_put (encode_utf16_pending s) (encode_utf16_rest s) c.in-Some.unit (encode_utf16_pending t)
          (encode_utf16_rest t) c.loop-unit.invariant.0 c.in-Some.ensures.steps c.loop-unit.bytes.items
          c.extend_from_slice.new.self.items (units_of c.args.name.now) (search rules) c.loop-unit.invariant.1,
    )

pub returns : goal.returns
returns c =
    let s = c.loop-unit.unit-iterator in
    units_put (encode_utf16_pending s) (encode_utf16_rest s) c.loop-unit.bytes.items (units_of c.args.name.now)
    c.in-None.ensures.steps.0 c.in-None.ensures.steps.1 c.loop-unit.invariant.1
