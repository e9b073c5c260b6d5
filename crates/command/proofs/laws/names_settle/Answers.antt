use Rattle.command.proofs.Escapes.{prints, settles}
use Rattle.command.proofs.Strings.{strings_say}
use Rattle.command.proofs.laws.names_settle.Goals as goal

pub returns-clause-print : goal.returns-clause-print
returns-clause-print c = prints

pub returns-clause-settle : goal.returns-clause-settle
returns-clause-settle c = settles

pub returns-clause-say : goal.returns-clause-say
returns-clause-say c = strings_say
