-- A line more, a failure, and the end.
use Rattle.std.proofs.Common.{◌∙◌, sym}
use Rattle.lines.proofs.Said.{said_more, said_end}
use Rattle.lines.proofs.Wents.{on_err}
use Rattle.report.proofs.Said.{said_none}
use Rattle.report.proofs.Goes.{went_line, stops_line, went_over}
use Rattle.report.proofs.write.write_lines.Goals as goal

pub lines-preserved : goal.lines-preserved
lines-preserved g c =
    let i = c.lines.invariant in let p = c.put_formed-end.ensures in
    record {
      went = went_line _ _ _ _ _ _ _ _ _ _ _ _ i.went c.in-Some.ensures p c.in_ok-write_all.ensures.ok;
      told = said_more _ _ _ _ _ _ _ i.told c.in-Some.ensures c.ending-said.ensures;
      size = p.long ∙ i.size;
    }

pub returns-in_err-write_all-clause-err : goal.returns-in_err-write_all-clause-err
returns-in_err-write_all-clause-err g c = on_err _
    (stops_line _ _ _ _ _ _ _ _ _ _ _ _ c.lines.invariant.went c.in-Some.ensures c.put_formed-end.ensures
    c.in_err-write_all.ensures.err)

pub returns-clause-ok : goal.returns-clause-ok
returns-clause-ok g c = went_over _ _ _ _ _ c.lines.invariant.went c.in_default.ensures.0

pub returns-clause-ending : goal.returns-clause-ending
returns-clause-ending g c = sym (said_end _ _ _ _ c.lines.invariant.told c.in_default.ensures.0)
    ∙ c.in-Some-said.is

pub unreachable-requires : goal.unreachable-requires
unreachable-requires g c = said_none _ c.requires
    (sym c.in-None.is ∙ said_end _ _ _ _ c.lines.invariant.told c.in_default.ensures.0)
