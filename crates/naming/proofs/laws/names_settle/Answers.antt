use Rattle.naming.proofs.Lines.{lines_settle}
use Rattle.naming.proofs.Says.{strings_say}
use Rattle.naming.proofs.laws.names_settle.Goals as goal

pub returns-clause-settle : goal.returns-clause-settle
returns-clause-settle c = lines_settle

pub returns-clause-say : goal.returns-clause-say
returns-clause-say c = strings_say
