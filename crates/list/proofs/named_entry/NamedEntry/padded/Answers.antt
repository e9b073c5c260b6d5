use Rattle.std.proofs.lemmas.List.{drop-replicate}
use Rattle.list.specs.Named.{padded}
use Rattle.list.proofs.named_entry.NamedEntry.padded.Goals as goal

pub returns : goal.returns
unfolding padded
returns c = rw (c.copy_from_slice.ensures.after, c.from.ensures, drop-replicate, c.args.self.now.sized)
