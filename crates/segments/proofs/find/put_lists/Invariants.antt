-- What was found, and what is found from the loop's place on, is what is found of the whole record.
use Rattle.std.proofs.Common.{◌≡◌, ◌-◌, ◌++◌, length}
use Rattle.record.specs.Walk.{walk_from}
use Rattle.items.specs.OfFile.{of_file}
use Rattle.segments.specs.Placed.{placed_by}
use Rattle.segments.specs.Hazards.{entries_hazards, listed_hazards}
use Rattle.segments.proofs.find.put_lists.Given as goal

abbrev pub invariant-loop-attribute : goal.invariant-loop-attribute
invariant-loop-attribute l = l.fn.found.items ++ of_file listed_hazards l.file
    ≡ l.found.items ++ of_file entries_hazards l.file (placed_by l.file.base.bytes.now l.file.base.number
    (walk_from l.file.base.bytes.now l.file.base.number l.at))

abbrev pub decreases-loop-attribute : goal.decreases-loop-attribute
decreases-loop-attribute l = length l.file.base.bytes.now - l.at
