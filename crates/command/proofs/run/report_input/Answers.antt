-- What was told of the bytes that were read was told of the input.
use Rattle.command.proofs.Fronts.{ran_over, ran}
use Rattle.command.proofs.run.report_input.Goals as goal

pub returns-in-Ok-clause-known : goal.returns-in-Ok-clause-known
returns-in-Ok-clause-known g c =
    ran_over _ c.args.asked c.args.form c.deref.result.now _ _ _
    (rw c.deref.ensures.value c.in-Ok.ensures.ok) c.write_report.ensures.ok c.write_report.ensures.err

pub returns-in-Ok-clause-unknown : goal.returns-in-Ok-clause-unknown
returns-in-Ok-clause-unknown g c = (
  c.deref.result.now,
  ran c.args.asked c.args.form c.deref.result.now _ _ _ c.write_report.ensures.ok c.write_report.ensures.err,
)
