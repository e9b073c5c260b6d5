-- Each iteration is one item of the listing.
use Rattle.std.proofs.Common.{arith, rules, sym, ap, ◌∙◌, ◌≡◌}
use Rattle.fields.specs.Answer.{Answer, gives, ends, refuses}
use Rattle.fields.specs.Told.{told_step}
use Rattle.fields.specs.declared.Refusal.{Refusal}
use Rattle.items.specs.declared.walk.Item.{Item}
use Rattle.bound.proofs.Sofar.{begin, fits, few, next, stopped}
use Rattle.bound.proofs.reads_by.Goals as goal

no_item : (a : Answer Item) → a ≡ ends → (i : Item) → a ≡ gives i → ⊥
no_item a e i q = let d = sym e ∙ q in absurd (cc)

refused : (a : Answer Item) (r : Refusal) → a ≡ refuses r → (i : Item) → a ≡ gives i → ⊥
refused a r e i q = let d = sym e ∙ q in absurd (cc)

pub items-init : goal.items-init
items-init c = begin _ _ c.fresh-at.ensures

pub overflow_add-reads : goal.overflow_add-reads
overflow_add-reads c = let k = few _ _ _ c.items.invariant c.next-walked.result c.next-walked.ensures.answer in
    omega arith

pub items-preserved : goal.items-preserved
items-preserved c = next _ _ _ c.items.invariant c.next-walked.result c.next-walked.ensures.answer c.in-Ok-Some.item
    (search rules) c.part_reads-reads.result c.part_reads-reads.ensures

pub overflow_add-reads-in-items : goal.overflow_add-reads-in-items
overflow_add-reads-in-items c =
    let k = fits _ _ _ (next _ _ _ c.items.invariant c.next-walked.result c.next-walked.ensures.answer
    c.in-Ok-Some.item (search rules) c.part_reads-reads.result c.part_reads-reads.ensures) in
    omega arith

pub returns-in-Ok-None : goal.returns-in-Ok-None
returns-in-Ok-None c = stopped _ _ _ c.items.invariant c.next-walked.result c.next-walked.ensures.answer
    (no_item (told_step c.next-walked.result.answer) (search rules))

pub returns-in-Err : goal.returns-in-Err
returns-in-Err c = stopped _ _ _ c.items.invariant c.next-walked.result c.next-walked.ensures.answer
    (refused _ _ (ap told_step c.in-Err.is))
