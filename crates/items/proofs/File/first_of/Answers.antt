-- What the call reports, as the match found it, decides what comes of the walk.
use Rattle.std.proofs.Common.{rules, ap, sym, ◌+◌, ◌∙◌, arith}
use Rattle.std.specs.Prelude.{Result}
use Rattle.fields.specs.Answer.{Outcome, report}
use Rattle.fields.specs.Told.{told}
use Rattle.fields.specs.declared.Refusal.{Refusal}
use Rattle.items.specs.Walked.{walked, told_next}
use Rattle.items.specs.declared.walk.Item.{Item}
use Rattle.items.proofs.Firsts.{first_ends, first_refused, first_unknown, first_found, first_other}
use Rattle.items.proofs.File.first_of.Goals as goal

pub items-preserved : goal.items-preserved
items-preserved c =
    let p = c.advance-walked.ensures.paid in let q = c.items.invariant.paid in
    record {
      same = first_other _ _ _ _ _ _ c.items.invariant.same
          (told_next (walked c.advance-walked.result c.advance-walked.new.at))
          c.advance-walked.ensures.answer c.in-Ok-Some.item (search rules)
          (sym c.if-not-known_type.ensures) c.if-item-ty.false;
      paid = omega arith;
    }

pub returns-in-Ok-None : goal.returns-in-Ok-None
returns-in-Ok-None c =
    ap (λ (a : Outcome Item). report a (c.items.reads + c.advance-walked.result.reads)) c.refused-answer.ensures
    ∙ first_ends _ _ _ _ _ _ c.items.invariant.same
    (told_next (walked c.advance-walked.result c.advance-walked.new.at))
    c.advance-walked.ensures.answer (search rules)

pub returns-in-Err : goal.returns-in-Err
returns-in-Err c = first_refused _ _ _ _ _ _ c.items.invariant.same
    (told_next (walked c.advance-walked.result c.advance-walked.new.at))
    c.advance-walked.ensures.answer _ (search rules)

pub returns-then-not-known_type : goal.returns-then-not-known_type
returns-then-not-known_type c =
    ap (λ (a : Result Item Refusal). report (told a) (c.items.reads + c.advance-walked.result.reads))
    c.refuses-answer.ensures
    ∙ first_unknown _ _ _ _ _ _ c.items.invariant.same
    (told_next (walked c.advance-walked.result c.advance-walked.new.at))
    c.advance-walked.ensures.answer c.in-Ok-Some.item (search rules)
    (sym c.if-not-known_type.ensures)

pub returns-then-item-ty : goal.returns-then-item-ty
returns-then-item-ty c =
    first_found _ _ _ _ _ _ c.items.invariant.same
    (told_next (walked c.advance-walked.result c.advance-walked.new.at))
    c.advance-walked.ensures.answer c.in-Ok-Some.item (search rules)
    (sym c.if-not-known_type.ensures) c.if-item-ty.true
