-- The table of the record alone, or of it and of those that were gathered.
use Rattle.std.specs.Prelude.{◌≡◌, length}
use Rattle.std.proofs.Common.{refl, rules}
use Rattle.mft.proofs.Readied.{ready_alone, ready_with, made_as, gathered_suit, gathered_make}
use Rattle.mft.proofs.ready.complete.Goals as goal

pub returns-then-sole-eq1-clause-ok : goal.returns-then-sole-eq1-clause-ok
returns-then-sole-eq1-clause-ok g c =
    let (fits, made, sound) = c.requires.sole in
    let (b, v, wanted) = sound in
    let w = c.args.sole.now.wanted in
    ready_alone g.R.Seek.stream_position g.R.Read.remaining c.args.layout c.args.own.number c.args.own.raw.now b v
    c.requires.own c.sorted_numbers_rise.ensures.same w.count w.numbers c.if-sole-eq1.true wanted _ _
    (record { length = c.args.sole.now.length; lost = c.new.result }) fits made c.new.ensures.items

pub write_chosen-length-requires-clause-suits : goal.write_chosen-length-requires-clause-suits
write_chosen-length-requires-clause-suits g c =
    let (fits, made, sound) = c.requires.sole in
    let (b, v, wanted) = sound in
    let numbers = c.sorted_numbers_rise.ensures in
    let gathered = c.in_ok-gathered.gathered in
    let many : c.len.result ≡ length gathered.numbers.items = search rules in
    gathered_suit numbers.rise numbers.same g.R.Seek.stream_position g.R.Read.remaining c.args.layout c.requires.good
    c.args.own.number c.args.own.raw.now b v _ wanted c.gather.new.raw gathered.numbers.items gathered.lost.items
    c.in_ok-gathered.ensures.ok c.from.result c.len.result c.deref.result.now c.from.ensures many
    c.deref.ensures.value c.numbers_rise.ensures.accepted

pub write_chosen-length-requires-clause-made : goal.write_chosen-length-requires-clause-made
write_chosen-length-requires-clause-made g c =
    let (fits, made, sound) = c.requires.sole in
    let (b, v, wanted) = sound in
    let numbers = c.sorted_numbers_rise.ensures in
    let gathered = c.in_ok-gathered.gathered in
    let many : c.len.result ≡ length gathered.numbers.items = search rules in
    gathered_make numbers.rise numbers.same g.R.Seek.stream_position g.R.Read.remaining c.args.layout c.requires.good
    c.args.own.number c.args.own.raw.now b v _ wanted c.gather.new.raw gathered.numbers.items gathered.lost.items
    c.in_ok-gathered.ensures.ok c.from.result c.len.result c.deref.result.now c.from.ensures many
    c.deref.ensures.value c.references_are_those_of_the_entries.ensures.few c.requires.number c.args.own.bytes _
    c.requires.table

pub returns-clause-ok : goal.returns-clause-ok
returns-clause-ok g c =
    let (fits, made, sound) = c.requires.sole in
    let (b, v, wanted) = sound in
    let gathered = c.in_ok-gathered.gathered in
    let many : c.len.result ≡ length gathered.numbers.items = search rules in
    ready_with g.R.Seek.stream_position g.R.Read.remaining c.args.layout c.args.own.number c.args.own.raw.now b v
    c.requires.own _ wanted c.gather.new.raw gathered.numbers.items gathered.lost.items c.in_ok-gathered.ensures.ok
    (length c.args.table.now) _ (record { length = c.write_chosen-length.result; lost = gathered.lost })
    c.write_chosen-length.ensures.within
    (made_as _ c.from.result c.from.ensures c.len.result c.deref.result.now gathered.numbers.items many
    c.deref.ensures.value c.gather.new.raw c.args.own.number (length c.args.table.now) _
    c.write_chosen-length.ensures.table)
    refl
