-- Results that tell one answer are alike.
use Rattle.std.proofs.Common.{◌≡◌, sym, ap, ◌∙◌}
use Rattle.std.specs.Prelude.{Ok, Err}
use Rattle.fields.specs.Answer.{Outcome, refuses}
use Rattle.fields.specs.declared.Refusal.{Refusal}
use Rattle.fields.proofs.Answers.{the-given, refused-given}
use Rattle.record.specs.Open.{Lent}
use Rattle.record.specs.View.{Piece}
use Rattle.record.specs.Told.{piece, shown_value}
use Rattle.record.specs.Laws.{TellsAll, SameView, SameValue, RecordsSettle, ViewsSettle, ValuesSettle}
use Rattle.record.specs.declared.values.View.{View}
use Rattle.record.specs.declared.values.Value.{Value}
use Rattle.record.specs.declared.values.Value.TheVariants.{Resident, Runs}

the-refused : {A : Type 0} {r q : Refusal} → ◌≡◌ {A = Outcome A} (refuses r) (refuses q) → r ≡ q
the-refused e = cc

-- what is told of two values settles that they are the same
pub tells-all : {A B : Type 0} (tells : A → B) (Same : A → A → Type 0) → ((x y : A) → tells x ≡ tells y → Same x y)
    → TellsAll tells Same
tells-all tells Same f (Ok x) (Ok y) a e h = f x y (the-given (e ∙ sym h))
tells-all tells Same f (Err r) (Err q) a e h = the-refused (e ∙ sym h)
tells-all tells Same f (Ok x) (Err q) a e h = refused-given (h ∙ sym e)
tells-all tells Same f (Err r) (Ok y) a e h = refused-given (e ∙ sym h)

pub records_settle : RecordsSettle
records_settle = tells-all _ _ λ x y e. (ap (λ (l : Lent). l.bytes) e, ap (λ (l : Lent). l.number) e)

same-view : (x y : View) → piece x ≡ piece y → SameView x y
same-view x y e = (ap (λ (p : Piece). p.from) e, ap (λ (p : Piece). p.bytes) e)

pub views_settle : ViewsSettle
views_settle = tells-all _ _ same-view

same-value : (x y : Value) → shown_value x ≡ shown_value y → SameValue x y
same-value (Resident x) (Resident y) e = let p : piece x ≡ piece y = cc in same-view x y p
same-value (Runs x k) (Runs y m) e = let p : piece x ≡ piece y = cc in let q : k ≡ m = cc in (same-view x y p, q)
same-value (Resident x) (Runs y m) e = cc
same-value (Runs x k) (Resident y) e = cc

pub values_settle : ValuesSettle
values_settle = tells-all _ _ same-value
