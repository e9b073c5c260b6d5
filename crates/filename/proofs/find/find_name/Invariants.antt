-- What is known of the name stays the same, and each turn takes an item.
use Rattle.std.proofs.Common.{◌≡◌, length}
use Rattle.table.specs.Held.{record_of}
use Rattle.items.specs.OfFile.{of_file}
use Rattle.items.specs.Rest as items
use Rattle.filename.specs.Names.{found_in, found_of}
use Rattle.filename.proofs.find.find_name.Given as goal

abbrev pub invariant-loop-answer : goal.invariant-loop-answer
invariant-loop-answer l = of_file found_of l.file l.wanted
    ≡ found_in l.file.base.bytes.now l.file.base.number (record_of l.file.table.bytes.now) l.wanted (items.rest l.items)

abbrev pub decreases-loop-answer : goal.decreases-loop-answer
decreases-loop-answer l = length (items.rest l.items)
