use Rattle.std.proofs.Common.{◌≡◌, ◌+◌, ◌*◌, ◌≤◌, length}
use Rattle.items.specs.Calls.{items_of}
use Rattle.items.specs.OfFile.{of_file}
use Rattle.items.specs.Rest.{rest}
use Rattle.uses.specs.Chains.{units_in}
use Rattle.uses.proofs.name_units.Given as goal

-- what was added, and what is to come, are the whole; a name has at most 255 units
abbrev pub invariant-loop-answer : goal.invariant-loop-answer
invariant-loop-answer l =
    (goal.iterator-loop-answer).can_next l.answer-iterator ×
    (goal.iterator-loop-answer).is_finite l.answer-iterator ×
    (units_in l.units (rest l.answer-iterator) ≡ units_in 0 (of_file items_of l.file)) ×
    (l.units + 255 * length (rest l.answer-iterator) ≤ 255 * 8193)
