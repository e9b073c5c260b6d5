-- As many records are looked up as the loop has passed.
use Rattle.std.proofs.Common.{◌≡◌, ◌++◌, take}
use Rattle.std.specs.Prelude.{flat_map}
use Rattle.items.specs.OfFile.{of_file}
use Rattle.segments.specs.Hazards.{number_hazards}
use Rattle.segments.proofs.find.put_referred.Given as goal

abbrev pub invariant-loop-number : goal.invariant-loop-number
invariant-loop-number l =
    l.found.items ≡ l.fn.found.items ++ flat_map (of_file number_hazards l.file) (take l.number-index l.number-items)
