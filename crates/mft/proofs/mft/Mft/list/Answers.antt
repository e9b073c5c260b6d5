-- A record that was read is listed by the table that was made ready.
use Rattle.std.proofs.Common.{inl, inr}
use Rattle.std.proofs.KnownBytes.{Keeps-refl}
use Rattle.std.proofs.lemmas.Result.{IfOk-weaker}
use Rattle.lines.proofs.Wents.{err_then}
use Rattle.mft.proofs.Heard.{lists_as, fails_as}
use Rattle.mft.proofs.mft.Mft.list.Goals as goal

pub list_ready-requires : goal.list_ready-requires
list_ready-requires g c = c.in-Ok.ensures.ready.0

pub returns-in-Ok-clause-ok : goal.returns-in-Ok-clause-ok
returns-in-Ok-clause-ok g c =
    let me = c.prepare.new.self in
    IfOk-weaker c.list_ready.result _ _
    (λ t (number, lists). (
      number,
      inl (
        me.own.items,
        c.in-Ok.ensures.read,
        lists_as g.R.Seek.stream_position g.R.Read.remaining c.args.number me.own.items me.table.items c.in-Ok.ready
            c.args.manner _ _ _ me.layout c.in-Ok.ensures.layout c.in-Ok.ensures.ready t lists,
      ),
    ))
    c.list_ready.ensures.ok

pub returns-in-Ok-clause-err : goal.returns-in-Ok-clause-err
returns-in-Ok-clause-err g c =
    let me = c.prepare.new.self in
    err_then c.list_ready.result c.list_ready.ensures.err
    (λ fails. (
      me.own.items,
      c.in-Ok.ensures.read,
      fails_as g.R.Seek.stream_position g.R.Read.remaining c.args.number me.own.items me.table.items c.in-Ok.ready
          c.args.manner _ _ _ me.layout c.in-Ok.ensures.layout c.in-Ok.ensures.ready fails,
    ))

pub returns-in-Err-clause-ok : goal.returns-in-Err-clause-ok
returns-in-Err-clause-ok g c =
    let told = c.skipped.ensures in (
      told.number,
      inr (told.lost, (Keeps-refl _, told.hazards, (c.in-Err.reason, told.reason, c.in-Err.ensures.err))),
    )
