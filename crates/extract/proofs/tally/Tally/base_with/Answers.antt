use Rattle.std.proofs.Common.{ℕ, ◌+◌, ◌≡◌, ap, sym, ◌∙◌, arith}
use Rattle.std.proofs.lemmas.Bool.{lt-ltb}
use Rattle.fields.proofs.Cases.{not-true}
use Rattle.extract.specs.declared.tally.Tally.{Tally}
use Rattle.extract.proofs.Sizes.{few_records}
use Rattle.extract.proofs.Tallies.{few, base_kept, base_on, base_written}
use Rattle.extract.proofs.tally.Tally.base_with.Goals as goal
use Rattle.extract.proofs.tally.Tally.base_with.Goals.{then-self, else-self}

pub overflow_add-result : goal.overflow_add-result
overflow_add-result c =
    let n = few_records _ _ c.args.extract.now.checked in let f = few c.args.extract.now c.args.i in
    let e = ap (λ (t : Tally). t.written) c.requires.before in
    omega arith

pub returns-then-is_base : goal.returns-then-is_base
returns-then-is_base c = λ b.
    base_kept c.args.extract.now c.args.i b c.args.self.now c.requires.before
    (elim c.if-self.branch [
      | then-self w ↦ λ e. absurd (omega (arith, w.if-self.true, e))
      | else-self w ↦ λ e. sym w.is_base.ensures ∙ sym w.value-is ∙ c.if-is_base.true
    ])

pub returns-else-is_base : goal.returns-else-is_base
returns-else-is_base c = λ b.
    let few = base_written c.args.extract.now c.args.i c.args.self.now c.requires.before in
    elim c.if-self.branch [
      | then-self w ↦ absurd (not-true (sym c.if-is_base.false ∙ w.value-is ∙ lt-ltb _ _ w.if-self.true))
      | else-self w ↦
          let e : c.args.self.now.base ≡ c.args.self.now.written = omega (arith, w.if-self.false, few) in
          ap (λ (n : ℕ). n + 1) (sym e)
          ∙ base_on c.args.extract.now c.args.i b c.args.self.now c.requires.before e
          (sym w.is_base.ensures ∙ sym w.value-is ∙ c.if-is_base.false)
    ]
