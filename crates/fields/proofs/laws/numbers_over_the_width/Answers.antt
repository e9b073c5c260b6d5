use Rattle.fields.proofs.Width.{split, fit, read-back, write-back}
use Rattle.fields.proofs.laws.numbers_over_the_width.Goals as goal

pub returns-clause-split : goal.returns-clause-split
returns-clause-split c = split

pub returns-clause-fit : goal.returns-clause-fit
returns-clause-fit c = fit

pub returns-clause-read_back : goal.returns-clause-read_back
returns-clause-read_back c = read-back

pub returns-clause-write_back : goal.returns-clause-write_back
returns-clause-write_back c = write-back
