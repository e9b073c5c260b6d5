-- What stops within the line, or behind it, stops within both.
use Rattle.lines.proofs.Wents.{on_err, err_then}
use Rattle.mft.proofs.Texts.{stops_in_front, stops_behind}
use Rattle.mft.proofs.listing.list_under.Goals as goal

pub returns-in_err-write_all-clause-err : goal.returns-in_err-write_all-clause-err
returns-in_err-write_all-clause-err g c =
    on_err _ (stops_in_front _ _ c.args.line.now _ c.in_err-write_all.ensures.err)

pub returns-clause-err : goal.returns-clause-err
returns-clause-err g c =
    err_then c.write_report.result c.write_report.ensures.err
    (stops_behind _ _ _ c.args.line.now _ c.in_ok-write_all.ensures.ok)
