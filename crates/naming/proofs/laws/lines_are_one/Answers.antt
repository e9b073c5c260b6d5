use Rattle.naming.proofs.Showing.{text_shows, string_shows}
use Rattle.naming.proofs.Lines.{lines_are_one}
use Rattle.naming.proofs.laws.lines_are_one.Goals as goal

pub returns-clause-one : goal.returns-clause-one
returns-clause-one c = lines_are_one

pub returns-clause-hidden : goal.returns-clause-hidden
returns-clause-hidden c = λ cs. (text_shows cs, string_shows cs)
