-- What is made by what was read of the front is made by the whole of it.
use Rattle.command.proofs.Making.{extracted, made_of_any}
use Rattle.command.proofs.make.extract_input.Goals as goal

pub returns-clause-known : goal.returns-clause-known
returns-clause-known g c =
    extracted c.args.asked _ _ c.in_ok-front.front.items c.in_ok-size.size _ c.in_ok-front.ensures.ok
    (rw c.deref.ensures.value at c.in_ok-size.ensures.size)
    (rw (c.deref-2.ensures.value, c.place.ensures) at c.extract_rest.ensures.known)

pub returns-clause-unknown : goal.returns-clause-unknown
returns-clause-unknown g c =
    made_of_any c.args.asked c.in_ok-front.front.items c.in_ok-size.size _
    (rw c.deref.ensures.value at c.in_ok-size.ensures.size) c.extract_rest.ensures.unknown
