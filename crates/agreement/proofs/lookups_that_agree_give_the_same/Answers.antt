use Rattle.agreement.proofs.Calls.{calls_agree, firsts_agree}
use Rattle.agreement.proofs.Lines.{parts_agree, listings_agree}
use Rattle.agreement.proofs.lookups_that_agree_give_the_same.Goals as goal

pub returns-clause-calls : goal.returns-clause-calls
returns-clause-calls c = calls_agree

pub returns-clause-firsts : goal.returns-clause-firsts
returns-clause-firsts c = firsts_agree

pub returns-clause-parts : goal.returns-clause-parts
returns-clause-parts c = parts_agree

pub returns-clause-listings : goal.returns-clause-listings
returns-clause-listings c = listings_agree
