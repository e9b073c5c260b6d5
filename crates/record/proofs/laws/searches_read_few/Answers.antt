use Rattle.std.proofs.Common.{sym}
use Rattle.record.proofs.Searches.{few, found_inside, found-stands}
use Rattle.record.proofs.laws.searches_read_few.Goals as goal

pub returns-clause-few : goal.returns-clause-few
returns-clause-few c = few

pub returns-clause-inside : goal.returns-clause-inside
returns-clause-inside c = λ s n k ty instance miss h q. found_inside s n k ty instance miss h (sym q)

pub returns-clause-stand : goal.returns-clause-stand
returns-clause-stand c = λ s n k ty instance miss h q. found-stands s n k ty instance miss h (sym q)
