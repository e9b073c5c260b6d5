-- The contract of the run step leaves one result.
use Rattle.std.proofs.Common.{ℕ, ◌≡◌, sym, ap, ◌∙◌}
use Rattle.std.specs.Prelude.{Option, Result}
use Rattle.fields.specs.declared.Refusal.{Refusal}
use Rattle.fields.proofs.Settled.{step-settled}
use Rattle.runs.specs.Laws.{StepsSettle}
use Rattle.runs.specs.declared.run.Run.{Run}
use Rattle.runs.specs.declared.run.Carried.{Carried}
use Rattle.runs.specs.declared.run.Decoded.{Decoded}

made : Result (Option Run) Refusal → Carried → ℕ → Decoded
made a c k = record { answer = a; carried = c; taken = k }

pub steps-settle : StepsSettle
unfolding made
steps-settle file rest c place d e p q =
    let a : d.answer ≡ e.answer = step-settled d.answer e.answer _ p.answer q.answer in
    let k : d.carried ≡ e.carried = p.carried ∙ sym q.carried in
    let t : d.taken ≡ e.taken = p.taken ∙ sym q.taken in
    let m : made d.answer d.carried d.taken ≡ made e.answer e.carried e.taken
    = ap (λ x. made x d.carried d.taken) a ∙ ap (λ x. made e.answer x d.taken) k ∙ ap (made e.answer e.carried) t in
    m
