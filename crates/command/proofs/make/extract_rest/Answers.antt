-- What is made of the bytes that are read is made of the input's.
use Rattle.command.specs.Extraction.{first_of, most_of}
use Rattle.command.proofs.Making.{made_of}
use Rattle.command.proofs.make.extract_rest.Goals as goal

pub returns-clause-known : goal.returns-clause-known
returns-clause-known g c =
    made_of _ _ _ _ c.args.front.now c.in_ok-bytes.bytes.items c.args.size c.args.place
    (most_of c.args.asked c.args.size) (first_of c.args.asked) _ c.chain-whole.ensures.bytes
    c.in_ok-pass_over.ensures.ok (rw c.most.ensures at c.in_ok-bytes.ensures.ok)
    (rw (c.first.ensures, c.deref.ensures.value) at c.make_table.ensures)

pub returns-clause-unknown : goal.returns-clause-unknown
returns-clause-unknown g c = (c.deref.result.now, rw c.first.ensures at c.make_table.ensures)
