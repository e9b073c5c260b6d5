use Rattle.table.proofs.Sound.{sound}
use Rattle.table.proofs.Holds.{record_of_row, record_of_none, held-length, base-inside, base-held}
use Rattle.table.proofs.laws.tables_hold_their_rows.Goals as goal

pub returns-clause-found : goal.returns-clause-found
returns-clause-found c = λ t h e n i p. record_of_row (sound t h e) n i p

pub returns-clause-missed : goal.returns-clause-missed
returns-clause-missed c = λ t h e n p. record_of_none (sound t h e) n p

pub returns-clause-held : goal.returns-clause-held
returns-clause-held c = λ t h e. held-length (sound t h e)

pub returns-clause-base : goal.returns-clause-base
returns-clause-base c = λ t h e i q. (base-inside (sound t h e) i q, base-held (sound t h e) i q)
