-- What is known of a name by the table is known by every lookup that agrees with it.
use Rattle.std.proofs.Common.{refl}
use Rattle.mft.proofs.Listings.{found_as}
use Rattle.mft.proofs.listing.find_in.Goals as goal

pub returns-in-Yes-clause-ok : goal.returns-in-Yes-clause-ok
returns-in-Yes-clause-ok c = λ size b peek base agree.
    found_as c.args.table.now size c.args.number b peek base agree c.names_are_those_of_the_references.ensures.found
    c.args.name.now c.in-Ok.file (c.in-Ok.ensures.answer size c.args.number b base) c.in-Ok.ensures.table _
    c.in-Yes.ensures

pub returns-in-No-clause-ok : goal.returns-in-No-clause-ok
returns-in-No-clause-ok c = λ size b peek base agree.
    found_as c.args.table.now size c.args.number b peek base agree c.names_are_those_of_the_references.ensures.found
    c.args.name.now c.in-Ok.file (c.in-Ok.ensures.answer size c.args.number b base) c.in-Ok.ensures.table _
    c.in-No.ensures

pub returns-in-Unknown-clause-err : goal.returns-in-Unknown-clause-err
returns-in-Unknown-clause-err c = (
  c.in-Unknown.refusal,
  refl,
  λ size b peek base agree.
      found_as c.args.table.now size c.args.number b peek base agree
      c.names_are_those_of_the_references.ensures.found c.args.name.now c.in-Ok.file
      (c.in-Ok.ensures.answer size c.args.number b base) c.in-Ok.ensures.table _ c.in-Unknown.ensures,
)
