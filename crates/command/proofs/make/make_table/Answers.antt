-- What is made of the extract is made of its bytes.
use Rattle.std.proofs.Common.{◌∙◌, ap, inl, inr, ⊎_elim, Err}
use Rattle.command.specs.declared.reason.Reason.TheVariants.{Unmade}
use Rattle.command.specs.declared.unmade.Unmade as unmade
use Rattle.command.proofs.Making.{is_broken}
use Rattle.command.proofs.make.make_table.Goals as goal

pub returns-in-Ok : goal.returns-in-Ok
returns-in-Ok c =
    let size = c.in-Ok.ensures.numbers.0 ∙ c.from.ensures in
    ⊎_elim
    (λ skipped. inl skipped)
    (λ filled. inr (inr (
      c.in-Ok.extract,
      (
        c.in-Ok.ensures.bytes,
        size,
        c.in-Ok.ensures.numbers.1,
        c.in-Ok.ensures.numbers.2,
      ),
      filled,
    )))
    c.fill_table.ensures

pub returns-in-Err : goal.returns-in-Err
returns-in-Err c =
    inr (inl (
      rw c.from.ensures at (is_broken _ _ c.in-Err.field-0 c.in-Err.ensures.answer),
      ap (λ (why : unmade.Unmade). Err (Unmade why)) c.by_sizes.ensures,
    ))
