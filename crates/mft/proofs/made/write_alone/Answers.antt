-- A single record is numbered from its number.
use Rattle.std.specs.Prelude.{◌≡◌}
use Rattle.std.proofs.Common.{◌∙◌}
use Rattle.fields.specs.Answer.{Outcome, gives, refuses}
use Rattle.mft.proofs.Absences.{passes}
use Rattle.mft.proofs.Makes.{alone_makes}
use Rattle.mft.proofs.Tables.{from}
use Rattle.mft.proofs.made.write_alone.Goals as goal

pub write_table-requires : goal.write_table-requires
write_table-requires c = λ x based.
    let checked = c.in-Ok.ensures in
    alone_makes x c.args.own.now c.args.number c.requires.good (based.0 ∙ checked.bytes)
    (based.1 ∙ checked.numbers.0) (from x.numbers c.args.number (based.2 ∙ checked.numbers.1)) c.requires.number _
    c.requires.room

pub unreachable-requires : goal.unreachable-requires
unreachable-requires c =
    let refused : ◌≡◌ {A = Outcome Unit} (refuses c.in-Err.field-0) (gives tt) =
    c.in-Err.ensures.answer ∙ passes c.args.own.now c.requires.good in
    let no : ⊥ = cc in absurd no

pub returns-clause-table : goal.returns-clause-table
returns-clause-table c =
    let checked = c.in-Ok.ensures in (
      c.in-Ok.extract,
      checked.bytes,
      checked.numbers.0,
      from c.in-Ok.extract.numbers c.args.number checked.numbers.1,
      c.write_table.ensures.table,
    )
