-- The listing ends as it does among reports.
use Rattle.command.specs.Asked.{asked_lines}
use Rattle.command.proofs.Listings.{ending_alike}
use Rattle.command.proofs.run.list_text.Goals as goal

pub returns-in-Some-clause-ending : goal.returns-in-Some-clause-ending
unfolding asked_lines
returns-in-Some-clause-ending g c = rw c.in-Some.is (ending_alike _ _ c.write_record_of.ensures.ending)

pub returns-in-None-clause-ending : goal.returns-in-None-clause-ending
unfolding asked_lines
returns-in-None-clause-ending g c = rw c.in-None.is (ending_alike _ _ c.write_table.ensures.ending)
