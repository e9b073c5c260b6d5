-- What was read of the inputs is enough of itself.
use Rattle.std.proofs.Common.{[], refl, sym, inr, append-nil}
use Rattle.command.specs.declared.merge_failure.Side.TheVariants.{First, Second}
use Rattle.nomutanku.proofs.Merged.{made_of, unmade}
use Rattle.nomutanku.proofs.merging.merge.Goals as goal

pub returns-in_err-first : goal.returns-in_err-first
returns-in_err-first g c =
    ([], [], unmade First c.in_err-first.field-0.0 _ c.in_err-first.ensures c.from_residual.ensures.1)

pub returns-in_err-second : goal.returns-in_err-second
returns-in_err-second g c = (
  [],
  [],
  unmade Second c.in_err-second.field-0.0 _ c.in_err-second.ensures c.from_residual-in_err-second.ensures.1,
)

pub returns : goal.returns
returns g c =
    let s = c.deref.result.now in
    let t = c.deref-2.result.now in
    (s, t, made_of s t _ (c.merge_tables.ensures s t ([], sym (append-nil s), inr refl) ([], sym (append-nil t), inr refl)))
