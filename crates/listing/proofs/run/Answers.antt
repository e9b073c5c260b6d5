-- The listing of what was read is the input's.
use Rattle.std.specs.Prelude.{Ok, Err}
use Rattle.listing.specs.declared.failed.Failed.TheVariants.{Write}
use Rattle.listing.proofs.Inputs.{of_input, listed, stopped}
use Rattle.listing.proofs.run.Goals as goal

pub returns-in-Ok-write_listing-clause-known : goal.returns-in-Ok-write_listing-clause-known
returns-in-Ok-write_listing-clause-known g c =
    of_input (g.R.Read.remaining c.args.input) c.in-Ok.table.items (g.W.Write.contents c.args.out.now)
    (g.W.Write.contents c.write_listing.new.out) (Ok c.outcome_of.result) c.in-Ok.ensures.ok
    (listed _ _ _ _ _ _ _ c.deref.ensures.value c.deref-in-Ok-write_listing.ensures.value
    c.in-Ok-write_listing.ensures.ok c.in-Ok-write_listing.ensures.ending c.outcome_of.ensures)

pub returns-clause-known : goal.returns-clause-known
returns-clause-known g c =
    of_input (g.R.Read.remaining c.args.input) c.in-Ok.table.items (g.W.Write.contents c.args.out.now)
    (g.W.Write.contents c.write_listing.new.out) (Err (Write c.in-Err-write_listing.error)) c.in-Ok.ensures.ok
    (stopped _ _ _ _ c.in-Err-write_listing.error c.deref.ensures.value c.in-Err-write_listing.ensures.err)
