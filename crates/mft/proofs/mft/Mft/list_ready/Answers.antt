-- What is told by the table is told by what was fetched.
use Rattle.std.proofs.Common.{refl}
use Rattle.lines.proofs.Wents.{on_err}
use Rattle.mft.proofs.Heard.{lists_ready, fails_all}
use Rattle.mft.proofs.mft.Mft.list_ready.Goals as goal

pub returns-in_err-heard-clause-err : goal.returns-in_err-heard-clause-err
returns-in_err-heard-clause-err g c =
    let me = c.args.self.now in
    let held = c.extracts_are_held.ensures in
    let numbers = c.sorted_numbers_rise.ensures in
    on_err _
    (fails_all held.pass held.found held.others held.bases numbers.rise numbers.same
    c.fixups_byte_by_byte.ensures.replaced g.R.Seek.stream_position g.R.Read.remaining me.layout me.good c.args.number
    me.own.items me.table.items c.args.ready _ c.deref.ensures.value c.args.manner _ _
    c.in_err-heard.ensures.err)

pub returns-clause-ok : goal.returns-clause-ok
returns-clause-ok g c =
    let me = c.args.self.now in
    let held = c.extracts_are_held.ensures in
    let numbers = c.sorted_numbers_rise.ensures in
    let heard = c.in_ok-heard.heard in (
      refl,
      λ b fs of.
          lists_ready held.pass held.found held.others held.bases numbers.rise numbers.same
          c.fixups_byte_by_byte.ensures.replaced g.R.Seek.stream_position g.R.Read.remaining me.layout me.good
          c.args.number me.own.items me.table.items c.args.ready _ c.deref.ensures.value b fs of c.args.manner _ _ heard
          (record {
            number = c.args.number;
            lost = c.args.ready.lost;
            hazards = heard.hazards;
            reason = heard.reason;
          })
          c.in_ok-heard.ensures.ok refl refl,
    )
