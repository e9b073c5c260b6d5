-- Each call says what it read, by its contract.
use Rattle.std.proofs.Common.{ap, ◌∙◌, length, ℕ}
use Rattle.parts.specs.OfFile.{parts_of_file}
use Rattle.bound.specs.Calls.{lent, by_value}
use Rattle.bound.proofs.Calls.{asked_reads}
use Rattle.bound.proofs.part_reads.Goals as goal

pub returns-in-Some-ByValue : goal.returns-in-Some-ByValue
returns-in-Some-ByValue c = asked_reads c.args.file.now c.args.rest (by_value 157 c.collect.result) c.collect.ensures

pub returns-in-Some-Lent : goal.returns-in-Some-Lent
returns-in-Some-Lent c =
    asked_reads c.args.file.now c.args.rest (lent _ _ c.fill.result) c.fill.ensures.parts
    ∙ ap (λ (k : ℕ). length (parts_of_file c.args.file.now k c.args.rest).reads) c.told-list

pub returns-in-None : goal.returns-in-None
returns-in-None c =
    asked_reads c.args.file.now c.args.rest (lent _ _ c.fill-in-None.result) c.fill-in-None.ensures.parts
    ∙ ap (λ (k : ℕ). length (parts_of_file c.args.file.now k c.args.rest).reads) c.told-list
