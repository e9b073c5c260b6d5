-- What is told by the table is told by every lookup that agrees with it.
use Rattle.std.proofs.Common.{◌∙◌}
use Rattle.lines.proofs.Wents.{on_err}
use Rattle.mft.proofs.Listings.{fails_base, lists_base}
use Rattle.mft.proofs.listing.list_base.Goals as goal

pub returns-in_err-reason-clause-err : goal.returns-in_err-reason-clause-err
returns-in_err-reason-clause-err g c =
    on_err _
    (fails_base c.args.table.now c.args.number c.args.manner c.file_of-file.result c.file_of-file.ensures.answer
    c.file_of-file.ensures.table c.tables_list_as_what_they_are_of.ensures
    c.names_are_those_of_the_references.ensures.names _ _ (c.deref.ensures.value ∙ c.in-Ok-file_line.ensures)
    c.name_of.ensures _ _ c.in_err-reason.ensures.err)

pub returns-clause-ok : goal.returns-clause-ok
returns-clause-ok g c =
    lists_base c.args.table.now c.args.number c.args.manner c.file_of-file.result c.file_of-file.ensures.answer
    c.file_of-file.ensures.table c.tables_list_as_what_they_are_of.ensures
    c.names_are_those_of_the_references.ensures.names _ _ (c.deref.ensures.value ∙ c.in-Ok-file_line.ensures)
    c.name_of.ensures _ _ (record { hazards = c.in-Ok.hazards; reason = c.in_ok-reason.reason })
    c.hazards_are_those_of_the_references.ensures c.in-Ok.ensures c.in_ok-reason.ensures.ok
