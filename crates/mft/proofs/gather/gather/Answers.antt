-- One record after another is gathered.
use Rattle.std.specs.Prelude.{◌≡◌, ◌*◌, ◌≤◌, length}
use Rattle.std.proofs.Common.{arith, rules}
use Rattle.mft.proofs.Gathering.{none, next_by, next_wanted, inside, few_more}
use Rattle.mft.proofs.gather.gather.Goals as goal

pub loop-i-init : goal.loop-i-init
loop-i-init g c =
    let fresh = c.none-gathered.ensures in
    let nothing : length c.none-gathered.result.numbers.items ≡ 0 = rw fresh.numbers (search rules) in
    record {
      gathered = none g.R.Seek.stream_position g.R.Read.remaining c.args.layout c.args.own.number c.args.own.raw.now
          c.args.raw.now c.none-gathered.result.numbers.items c.none-gathered.result.lost.items fresh.numbers
          fresh.lost;
      few = omega (arith, nothing);
    }

pub loop-i-preserved : goal.loop-i-preserved
loop-i-preserved g c =
    let w = c.args.wanted.now in
    let long : length w.numbers ≡ 158 = search rules in
    let buffer : length c.loop-i.raw ≡ length c.args.raw.now = search rules in
    let i = c.loop-i.i in
    let size = c.args.layout.size in
    let numbers = c.loop-i.gathered.numbers.items in
    let room : size * length numbers ≤ length c.loop-i.raw =
    inside size (length numbers) i _ c.loop-i.invariant.few (omega (arith, w.few, c.loop-i-test.true))
    (omega (arith, c.requires.room, buffer)) in
    let full : length c.take.new.room ≡ size = search rules in
    record {
      gathered =
          next_by g.R.Seek.stream_position g.R.Read.remaining c.args.layout c.args.own.number c.args.own.raw.now
          c.loop-i.raw numbers _ c.take.new.room _ room full _ _
          (next_wanted w.numbers w.count i (record { 0 = 0 }) c.loop-i-test.true (omega (arith, w.few)))
          c.loop-i.gathered.lost.items c.in_ok-why.why c.loop-i.invariant.gathered c.in_ok-why.ensures.ok
          _ c.from-size.ensures _ (search rules)
          _ c.in_ok-add.ensures.numbers _ c.in_ok-add.ensures.lost;
      few = few_more numbers _ c.in_ok-why.why _ c.in_ok-add.ensures.numbers i c.loop-i.invariant.few;
    }
