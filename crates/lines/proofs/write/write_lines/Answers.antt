-- A line more, a failure, and the end.
use Rattle.std.proofs.Common.{◌∙◌, sym, arith}
use Rattle.lines.proofs.Said.{said_more, said_end, said_none}
use Rattle.lines.proofs.Wents.{went_line, went_end, stops_then, on_err}
use Rattle.lines.proofs.write.write_lines.Goals as goal

pub returns-in_err-from-clause-err : goal.returns-in_err-from-clause-err
returns-in_err-from-clause-err g c = on_err _ (stops_then _ _ _ _ _ _ c.lines.invariant.went
    c.in_err-from.ensures.err)

pub lines-preserved : goal.lines-preserved
lines-preserved g c =
    let i = c.lines.invariant in let p = c.put_line-end.ensures in let r = c.in_ok-from.ensures.room in let z = p.most
    in
    record {
      went = went_line _ _ _ _ _ _ _ _ _ _ _ _ _ i.went c.in_ok-from.ensures.ok c.in-Some.ensures.gives p;
      told = said_more _ _ _ _ _ _ _ i.told c.in-Some.ensures.gives c.ending-said.ensures;
      size = p.long ∙ i.size;
      most = omega arith;
    }

pub returns-in_err-write_all-clause-err : goal.returns-in_err-write_all-clause-err
returns-in_err-write_all-clause-err g c = on_err _ (stops_then _ _ _ _ _ _ c.lines.invariant.went
    c.in_err-write_all.ensures.err)

pub returns-clause-ok : goal.returns-clause-ok
returns-clause-ok g c = went_end _ _ _ _ _ _ c.lines.invariant.went c.in_default.ensures.gives.0
    c.in_ok-write_all.ensures.ok

pub returns-clause-ending : goal.returns-clause-ending
returns-clause-ending g c = sym (said_end _ _ _ _ c.lines.invariant.told c.in_default.ensures.gives.0)
    ∙ c.in-Some-said.is

pub unreachable-requires : goal.unreachable-requires
unreachable-requires g c = said_none _ c.requires
    (sym c.in-None.is ∙ said_end _ _ _ _ c.lines.invariant.told c.in_default.ensures.gives.0)
