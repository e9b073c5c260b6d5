-- The loop comes to the numbers in turn, from the last one on.
use Rattle.std.proofs.Common.{arith, sym, ap, ◌∙◌, [], length}
use Rattle.std.proofs.lemmas.List.{length-take-le, length_push}
use Rattle.std.specs.Iterator.Adapters.{rev_source}
use Rattle.std.specs.Slice.Iter.{iter_rest}
use Rattle.references.proofs.Sorts.{onto, onto_none, onto_more, onto_done}
use Rattle.references.proofs.References.rising.Goals as goal

pub loop-number-init : goal.loop-number-init
loop-number-init c =
    let q = ap (λ i. iter_rest (rev_source i)) c.into_iter-number-iterator.ensures.into_iter_gives
    ∙ ap iter_rest c.rev-number-items.ensures.source ∙ c.iter.ensures.rest in
    record {
      same = onto_none _ ∙ ap (λ xs. onto xs []) (sym q);
      left = rw q (omega (arith, length-take-le c.args.self.now.count c.args.self.now.numbers (omega arith)));
    }

pub place-requires : goal.place-requires
place-requires c =
    let s = ap length c.in-Some.ensures.steps in
    let i = c.loop-number.invariant.left in let f = c.args.self.now.few in
    omega (arith, length_push)

pub loop-number-preserved : goal.loop-number-preserved
loop-number-preserved c =
    let s = ap length c.in-Some.ensures.steps in
    let i = c.loop-number.invariant.left in let k = c.place.ensures.count in
    record {
      same = rw c.place.ensures.placed (onto_more _ _ _ _ _ c.in-Some.ensures.steps c.loop-number.invariant.same);
      left = omega (arith, length_push);
    }

pub returns : goal.returns
returns c = c.place-2.ensures.placed ∙ onto_done _ _ _ _ c.in-None.ensures.steps.0 c.loop-number.invariant.same
