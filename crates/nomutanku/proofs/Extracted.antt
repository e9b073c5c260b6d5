-- What is made of a part that was read is made of what is asked for.
use Rattle.std.proofs.Common.{ℕ, List, ◌≡◌, subst, Result, Ok}
use Rattle.command.specs.Extraction.{size_of, first_of}
use Rattle.command.specs.Make.{Makes, MakesBy, Extracts}
use Rattle.command.specs.declared.extraction.Extraction.{Extraction}
use Rattle.command.specs.declared.make.Made.{Made}
use Rattle.command.specs.declared.reason.Reason.{Reason}
use Rattle.command.specs.declared.status.Status.{Status}
use Rattle.nomutanku.specs.Answers.{AnswersBy, IsExtracted}
use Rattle.nomutanku.specs.declared.failed.Failed.{Failed}

pub made_of_any : (q : Extraction) (front : List ℕ) (size : ℕ) (r : Result Made Reason) → Ok size ≡ size_of q.size front
    → ((bytes : List ℕ) × Makes size (first_of q) bytes r)
    → (front bytes : List ℕ) × Extracts q front (λ n. bytes) r
made_of_any q front size r e (bytes, m) =
    (front, bytes, subst (λ (a : Result ℕ Reason). MakesBy a (first_of q) (λ (n : ℕ). bytes) r) e m)

pub extracted_by : (q : Extraction) (made : Result Made Reason) (result : Result Status Failed)
    → ((front part : List ℕ) × Extracts q front (λ n. part) made) → AnswersBy q made result → IsExtracted q result
extracted_by q made result (front, part, e) a = (front, part, (made, e, a))
