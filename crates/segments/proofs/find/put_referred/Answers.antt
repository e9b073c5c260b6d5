-- The loop comes to each number that the lists refer to.
use Rattle.std.proofs.Common.{◌++◌, ap, ◌∙◌}
use Rattle.std.specs.Prelude.{flat_map}
use Rattle.std.proofs.lemmas.List.{take_all}
use Rattle.items.specs.OfFile.{of_file}
use Rattle.references.specs.References.{Told}
use Rattle.segments.specs.Hazards.{number_hazards, referred_hazards}
use Rattle.segments.proofs.find.put_referred.Goals as goal

pub returns : goal.returns
unfolding referred_hazards
returns c =
    c.loop-number.invariant
    ∙ ap (λ ms. c.args.found.now.items ++ flat_map (of_file number_hazards c.args.file.now) ms)
    (take_all c.loop-number.number-index _ c.loop-number-test.false
    ∙ ap (λ (t : Told). t.numbers) c.of-references.ensures)
