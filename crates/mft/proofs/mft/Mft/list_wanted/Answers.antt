-- What is known by the table is known by every lookup that has what was fetched.
use Rattle.std.proofs.Common.{ap}
use Rattle.std.proofs.KnownBytes.{Keeps-refl}
use Rattle.lines.proofs.Wents.{on_err}
use Rattle.std.specs.Prelude.{option_copied}
use Rattle.mft.proofs.Turning.{passes_wanted, skips_wanted, lists_wanted, fails_wanted}
use Rattle.mft.proofs.mft.Mft.list_wanted.Goals as goal

pub list_ready-requires : goal.list_ready-requires
list_ready-requires g c = c.in-Ok.ensures.ok.0

pub returns-in_err-list_ready-in-Ok-true-clause-err :
    goal.returns-in_err-list_ready-in-Ok-true-clause-err
returns-in_err-list_ready-in-Ok-true-clause-err g c =
    let me = c.args.self.now in
    let now = c.complete.new.self in
    let held = c.extracts_are_held.ensures in
    let numbers = c.sorted_numbers_rise.ensures in
    on_err _
    (fails_wanted held.pass held.found held.others held.bases numbers.rise numbers.same
    c.fixups_byte_by_byte.ensures.replaced g.R.Seek.stream_position g.R.Read.remaining me.layout me.good c.args.number
    me.own.items now.table.items c.in-Ok.ready c.args.manner (option_copied c.args.wanted) _ c.deref.ensures.value
    c.in-Ok.ensures.ok _ _ now.layout c.in-Ok.ensures.layout now.own.items (ap (λ v. v.items) c.in-Ok.ensures.own) _
    c.in-Ok-true.field-0-test c.in-Ok-true.ensures.ok c.in_err-list_ready-in-Ok-true.ensures.err)

pub returns-in_ok-list_ready-in-Ok-true-clause-ok :
    goal.returns-in_ok-list_ready-in-Ok-true-clause-ok
returns-in_ok-list_ready-in-Ok-true-clause-ok g c =
    let me = c.args.self.now in
    let now = c.complete.new.self in
    let held = c.extracts_are_held.ensures in
    let numbers = c.sorted_numbers_rise.ensures in
    let (number, lists) = c.in_ok-list_ready-in-Ok-true.ensures.ok in (
      number,
      lists_wanted held.pass held.found held.others held.bases numbers.rise numbers.same
          c.fixups_byte_by_byte.ensures.replaced g.R.Seek.stream_position g.R.Read.remaining me.layout me.good
          c.args.number me.own.items now.table.items c.in-Ok.ready c.args.manner (option_copied c.args.wanted) _
          c.deref.ensures.value c.in-Ok.ensures.ok _ _ now.layout c.in-Ok.ensures.layout now.own.items
          (ap (λ v. v.items) c.in-Ok.ensures.own) _ c.in-Ok-true.field-0-test c.in-Ok-true.ensures.ok
          c.in_ok-list_ready-in-Ok-true.field-0 lists,
    )

pub returns-in-Ok-false-clause-ok : goal.returns-in-Ok-false-clause-ok
returns-in-Ok-false-clause-ok g c =
    let me = c.args.self.now in
    let held = c.extracts_are_held.ensures in
    let numbers = c.sorted_numbers_rise.ensures in (
      Keeps-refl _,
      passes_wanted held.pass held.found held.others held.bases numbers.rise numbers.same
          c.fixups_byte_by_byte.ensures.replaced g.R.Seek.stream_position g.R.Read.remaining me.layout me.good
          c.args.number me.own.items c.complete.new.self.table.items c.in-Ok.ready c.args.manner
          (option_copied c.args.wanted) _ c.deref.ensures.value c.in-Ok.ensures.ok (g.W.Write.contents c.args.out.now)
          (g.W.Write.contents c.args.out.now) _ c.in-Ok-false.field-0-test c.in-Ok-false.ensures.ok,
    )

pub returns-in-Err-seek_name-clause-ok : goal.returns-in-Err-seek_name-clause-ok
returns-in-Err-seek_name-clause-ok g c =
    let me = c.args.self.now in
    let held = c.extracts_are_held.ensures in
    let numbers = c.sorted_numbers_rise.ensures in
    let told = c.unsought.ensures in (
      told.number,
      skips_wanted held.pass held.found held.others held.bases numbers.rise numbers.same
          c.fixups_byte_by_byte.ensures.replaced g.R.Seek.stream_position g.R.Read.remaining me.layout me.good
          c.args.number me.own.items c.complete.new.self.table.items c.in-Ok.ready c.args.manner
          (option_copied c.args.wanted) _ c.deref.ensures.value c.in-Ok.ensures.ok (g.W.Write.contents c.args.out.now)
          (g.W.Write.contents c.args.out.now) c.unsought.result told.lost told.hazards _ told.reason
          c.in-Err-seek_name.ensures.err,
    )
