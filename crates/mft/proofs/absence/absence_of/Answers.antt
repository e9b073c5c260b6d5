-- The record that is judged is the one at hand.
use Rattle.std.specs.Prelude.{◌≡◌, Option, Some, None}
use Rattle.std.proofs.Common.{◌∙◌, ap}
use Rattle.fields.specs.Answer.{Outcome, gives, refuses}
use Rattle.extract.specs.Fixup.{Verdict, verdict_of}
use Rattle.extract.specs.Records.{record_at}
use Rattle.extract.specs.Judge.{told_verdict}
use Rattle.mft.specs.Absence.{absence_by}
use Rattle.mft.proofs.Absences.{passes, judged}
use Rattle.mft.proofs.absence.absence_of.Goals as goal

pub returns-in-Some : goal.returns-in-Some
returns-in-Some c =
    let x = c.in-Ok.extract in
    let is : Some (told_verdict (record_at x 0) c.in-Some.judged) ≡ Some (verdict_of c.args.raw.now) =
    rw c.in-Some.is at c.judged.ensures
    ∙ judged x c.args.raw.now c.in-Ok.ensures.bytes c.in-Ok.ensures.numbers.0 c.requires in
    let same : told_verdict (record_at x 0) c.in-Some.judged ≡ verdict_of c.args.raw.now = cc in
    c.absent_as.ensures (record_at x 0) ∙ ap absence_by same

pub returns-in-None : goal.returns-in-None
returns-in-None c =
    let e : ◌≡◌ {A = Option Verdict} None (Some (verdict_of c.args.raw.now)) =
    rw c.in-None.is at c.judged.ensures
    ∙ judged c.in-Ok.extract c.args.raw.now c.in-Ok.ensures.bytes c.in-Ok.ensures.numbers.0 c.requires in
    let no : ⊥ = cc in absurd no

pub returns-in-Err : goal.returns-in-Err
returns-in-Err c =
    let e : ◌≡◌ {A = Outcome Unit} (refuses c.in-Err.field-0) (gives tt) =
    c.in-Err.ensures.answer ∙ passes c.args.raw.now c.requires in
    let no : ⊥ = cc in absurd no
