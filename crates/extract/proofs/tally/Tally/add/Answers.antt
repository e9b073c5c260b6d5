use Rattle.std.proofs.Common.{ℕ, ap, ◌∙◌, ◌+◌, arith}
use Rattle.std.specs.Prelude.{Option, Some}
use Rattle.std.specs.Option.{option_or}
use Rattle.fields.specs.declared.RecordNumber.{RecordNumber}
use Rattle.extract.specs.declared.tally.RefusedRecord.{RefusedRecord}
use Rattle.extract.specs.declared.tally.Tally.{Tally}
use Rattle.extract.proofs.Sizes.{few_records}
use Rattle.extract.proofs.Tallies.{few, left_more, refused_more, sound_more}
use Rattle.extract.proofs.tally.Tally.add.Goals as goal

pub overflow_add-self : goal.overflow_add-self
overflow_add-self c =
    let n = few_records _ _ c.args.extract.now.checked in let f = few c.args.extract.now c.args.i in
    let e = ap (λ (t : Tally). t.left_out) c.requires.before in
    omega arith

pub overflow_add-self-in-Refused : goal.overflow_add-self-in-Refused
overflow_add-self-in-Refused c =
    let n = few_records _ _ c.args.extract.now.checked in let f = few c.args.extract.now c.args.i in
    let e = ap (λ (t : Tally). t.refused) c.requires.before in
    omega arith

pub overflow_add-self-in-Sound : goal.overflow_add-self-in-Sound
overflow_add-self-in-Sound c =
    let n = few_records _ _ c.args.extract.now.checked in let f = few c.args.extract.now c.args.i in
    let e = ap (λ (t : Tally). t.written) c.requires.before in
    omega arith

pub late_row-requires-clause-few : goal.late_row-requires-clause-few
late_row-requires-clause-few c =
    let f = few c.args.extract.now c.args.i in let e = ap (λ (t : Tally). t.written) c.requires.before in omega arith

pub returns-in-LeftOut : goal.returns-in-LeftOut
returns-in-LeftOut c = left_more _ _ _ (rw c.in-LeftOut.is at c.requires.judged) c.requires.before

pub returns-in-Refused : goal.returns-in-Refused
returns-in-Refused c =
    let was = c.args.self.now in
    ap (λ (o : Option RefusedRecord). record was { refused = was.refused + 1; first_refused = o })
    (c.or-self.ensures
    ∙ ap (λ (n : Option RecordNumber). option_or was.first_refused
    (Some (record { position = c.args.i; number = n; cause = c.in-Refused.cause }))) c.number.ensures)
    ∙ refused_more _ _ _ _ (rw c.in-Refused.is at c.requires.judged) c.requires.before

pub returns-in-Sound : goal.returns-in-Sound
returns-in-Sound c =
    let was = c.args.self.now in
    ap (λ (o : Option ℕ). record was { written = was.written + 1; late = o; base = c.base_with-self.result })
    (c.or-self-in-Sound.ensures ∙ ap (option_or was.late) c.late_row.ensures)
    ∙ sound_more _ _ _ _ _ (rw c.in-Sound.is at c.requires.judged) c.requires.before (c.base_with-self.ensures _)
