-- What is read, and what is left, are the units.
use Rattle.std.specs.Prelude.{◌≡◌, ◌++◌}
use Rattle.std.specs.Slice.Iter.{chunks_exact_rest, chunks_exact_size}
use Rattle.naming.specs.Units.{units_in}
use Rattle.naming.proofs.units.units_in.Given as goal

abbrev pub invariant-loop-pair : goal.invariant-loop-pair
invariant-loop-pair l =
    (chunks_exact_size l.pair-iterator ≡ 2)
    × (l.units.items ++ units_in (chunks_exact_rest l.pair-iterator) ≡ units_in l.bytes)
