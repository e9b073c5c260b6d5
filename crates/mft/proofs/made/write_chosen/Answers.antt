-- Records that were chosen have the numbers that were lent.
use Rattle.std.specs.Prelude.{ℕ, ◌≡◌}
use Rattle.std.proofs.Common.{◌∙◌, ap}
use Rattle.fields.specs.Answer.{Outcome, gives, refuses}
use Rattle.extract.specs.Size.{chosen_checked}
use Rattle.mft.proofs.Tables.{listed}
use Rattle.mft.proofs.made.write_chosen.Goals as goal

pub write_table-requires : goal.write_table-requires
write_table-requires c = λ x based.
    let checked = c.in-Ok.ensures in
    c.requires.made x (
      based.0 ∙ checked.bytes,
      based.1 ∙ checked.numbers.0 ∙ c.from.ensures,
      listed x.numbers c.args.numbers (based.2 ∙ checked.numbers.1),
    )

pub unreachable-requires : goal.unreachable-requires
unreachable-requires c =
    let refused : ◌≡◌ {A = Outcome Unit} (refuses c.in-Err.field-0) (gives tt) =
    c.in-Err.ensures.answer
    ∙ ap (λ (k : ℕ). chosen_checked k c.args.raw.now c.args.numbers.now) c.from.ensures
    ∙ c.requires.suits in
    let no : ⊥ = cc in absurd no

pub returns-clause-table : goal.returns-clause-table
returns-clause-table c =
    let checked = c.in-Ok.ensures in (
      c.in-Ok.extract,
      checked.bytes,
      checked.numbers.0 ∙ c.from.ensures,
      listed c.in-Ok.extract.numbers c.args.numbers checked.numbers.1,
      c.write_table.ensures.table,
    )
