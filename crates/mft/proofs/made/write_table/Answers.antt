-- The front of the buffer is the table.
use Rattle.std.specs.Prelude.{take}
use Rattle.std.proofs.Common.{sym, ap, ◌∙◌}
use Rattle.mft.proofs.Tables.{exact}
use Rattle.mft.proofs.made.write_table.Goals as goal

pub returns-clause-table : goal.returns-clause-table
returns-clause-table c =
    let based = c.with_base.ensures in
    let r = c.in-Ok.extracted in
    let given = sym c.in-Ok.ensures.answer in (
      c.with_base.result,
      (based.bytes, based.size, based.numbers, based.base),
      (
        r,
        given,
        ap (take r.length) c.in-Ok.ensures.written ∙ exact c.reports_add_up.ensures.lengths _ _ r given _,
      ),
    )
