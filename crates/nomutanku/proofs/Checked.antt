-- Where all base records in use are gone over no words stand beside, and so each of them says a number.
use Rattle.std.proofs.Common.{ℕ, ◌≡◌, List, [], ◌∷◌, Bool, true, false, Option, Some, None, Result, Ok, Err, map, subst}
use Rattle.std.specs.Prelude.{codes}
use Rattle.std.specs.Borrow.{Bor}
use Rattle.std.specs.Str.{bytes_eq}
use Rattle.std.proofs.lemmas.List.Elements.{All-nil}
use Rattle.fields.specs.Pick.{pick}
use Rattle.command.specs.declared.status.Status.{Status}
use Rattle.nomutanku.specs.Answers.{IsTold}
use Rattle.nomutanku.specs.Door.{AreNumbers, AnswersWords, checked_of, checked_words, wrong_words, goes_over_all}
use Rattle.nomutanku.specs.Door.{texts_of}
use Rattle.nomutanku.specs.Wishes.{IsNumber}
use Rattle.nomutanku.specs.declared.failed.Failed.{Failed}
use Rattle.nomutanku.specs.declared.request.Request.{Request}
use Rattle.nomutanku.specs.declared.request.Wrong.{Wrong}
use Rattle.nomutanku.specs.declared.request.Wrong.TheVariants.{Base, StandardInput}

unrefused : (b : Bool) (w : Wrong) (r : Result (List ℕ) Wrong) (name : List ℕ) → pick b (Err w) r ≡ Ok name
    → r ≡ Ok name
unrefused true w r name e = cc
unrefused false w r name e = e

wordless : (words : List (Bor (List ℕ))) (n name : List ℕ)
    → checked_words n (wrong_words true (map (λ (text : Bor (List ℕ)). text.now) words)) ≡ Ok name → AreNumbers words
wordless [] n name e = All-nil (λ (w : Bor (List ℕ)). IsNumber w.now)
wordless (w ∷ ws) n name e = cc

beside_all : (q : Request) (mft : Option (List ℕ)) (name : List ℕ) → checked_of q mft ≡ Ok name
    → goes_over_all q ≡ true → AreNumbers q.words.now
beside_all q None name e all = cc
beside_all q (Some n) name e all =
    let by : Bool → Result (List ℕ) Wrong = λ b. checked_words n (wrong_words b (texts_of q.words)) in
    let other =
    unrefused q.base Base (pick (bytes_eq n (codes "-")) (Err StandardInput) (by (goes_over_all q))) name e in
    let named = unrefused (bytes_eq n (codes "-")) StandardInput (by (goes_over_all q)) name other in
    wordless q.words.now n name (subst (λ (b : Bool). by b ≡ Ok name) all named)

pub told_beside_all : (q : Request) (mft : Option (List ℕ)) (name : List ℕ) (result : Result Status Failed)
    → checked_of q mft ≡ Ok name → goes_over_all q ≡ true → IsTold result → AnswersWords q.words.now result
told_beside_all q mft name result e all told = (λ _. told, λ no. absurd (no (beside_all q mft name e all)))
