-- What was read is the front of the input.
use Rattle.listing.proofs.Inputs.{taken}
use Rattle.listing.proofs.read_table.Goals as goal

pub returns-in-Ok-clause-ok : goal.returns-in-Ok-clause-ok
returns-in-Ok-clause-ok g c =
    taken g.R.Read.remaining _ _ _ _ _ c.take.ensures.inner c.take.ensures.limit c.new-table.ensures.items
    c.in-Ok.ensures.bytes
