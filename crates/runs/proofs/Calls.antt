-- The calls of the step give the runs that are left, of which there are few.
use Rattle.std.proofs.Common.{ℕ, zero, suc, ◌+◌, ◌*◌, ◌<◌, ◌≤◌, ◌≡◌, List, ◌∷◌, length, drop, length-drop}
use Rattle.std.proofs.Common.{refl, sym, ap, ◌∙◌, arith}
use Rattle.std.specs.Prelude.{Option, Some, None, Result, Ok, Err}
use Rattle.fields.specs.Answer.{Answer, gives, ends, refuses, Outcome}
use Rattle.fields.specs.Told.{told_step}
use Rattle.fields.specs.declared.RecordNumber.{RecordNumber}
use Rattle.fields.specs.declared.Refusal.{Refusal}
use Rattle.runs.specs.Run.{head, run_size, run_of, carried_after, taken_by}
use Rattle.runs.specs.Runs.{behind, runs_by, runs_from}
use Rattle.runs.specs.Laws.{Steps, Calls, gave, ended, refused, CallsGiveTheRuns, CallsCanBeMade, RunsEnd}
use Rattle.runs.specs.Laws.{runs_given, RunsAreFew, EndsStay, RefusalsStay}
use Rattle.runs.specs.declared.run.Run.{Run}
use Rattle.runs.specs.declared.run.Carried.{Carried}
use Rattle.runs.specs.declared.run.Decoded.{Decoded}
use Rattle.runs.proofs.Given.{of-run}
use Rattle.runs.proofs.Walks as walks

-- what is left behind a run
abbrev pub left : List ℕ → List ℕ
left rest = drop (run_size (head rest)) rest

module _ (file : RecordNumber) where
  pub shorter : (rest : List ℕ) (c : Carried) (place : ℕ) (r : Run) → run_of rest c file place ≡ gives r
      → length (left rest) + 2 ≤ length rest
  shorter rest c place r e =
      let w = of-run rest c file place r e in let y = w.least in let z = w.most in
      let d = length-drop (run_size (head rest)) rest in
      omega arith

  -- at most half as many as there are bytes
  few-behind : (f : ℕ) (rest : List ℕ) (c : Carried) (place : ℕ)
      → ((s : List ℕ) (d : Carried) (p : ℕ) → 2 * runs_given (runs_by file f s d p) ≤ length s)
      → (a : Answer Run) → run_of rest c file place ≡ a
      → 2 * runs_given (behind file (runs_by file f) rest c place a) ≤ length rest
  unfolding behind
  few-behind f rest c place ih (gives r) e =
      let s = shorter rest c place r e in
      let q = ih (left rest) (carried_after c (gives r)) (place + run_size (head rest)) in
      omega arith
  few-behind f rest c place ih ends e = omega arith
  few-behind f rest c place ih (refuses r) e = omega arith

  few-by : (f : ℕ) (rest : List ℕ) (c : Carried) (place : ℕ)
      → 2 * runs_given (runs_by file f rest c place) ≤ length rest
  unfolding runs_by
  few-by zero rest c place = omega arith
  few-by (suc f) rest c place = few-behind f rest c place (few-by f) (run_of rest c file place) refl

pub few : RunsAreFew
unfolding runs_from
few file rest c place = few-by file (suc (length rest)) rest c place

pub runs-end : RunsEnd
unfolding runs_from
runs-end file rest c place f l = walks.enough file f (suc (length rest)) rest c place l (omega arith)

-- what a step's answer says of the definition's
said : (file : RecordNumber) (rest : List ℕ) (c : Carried) (place : ℕ) (d : Decoded) (a : Answer Run)
    → Steps file rest c place d → told_step d.answer ≡ a → run_of rest c file place ≡ a
said file rest c place d a s e = sym s.answer ∙ e

pub calls-give : CallsGiveTheRuns
calls-give file rest c place xs (gave d r s e k) =
    let a = said file rest c place d (gives r) s (ap told_step e) in
    let y : d.carried ≡ carried_after c (gives r) = s.carried ∙ ap (carried_after c) a in
    let t : d.taken ≡ run_size (head rest) = s.taken ∙ ap (taken_by rest) a in
    let ih = calls-give file (drop d.taken rest) d.carried (place + d.taken) _ k in
    let m = walks.moved file rest c place r (sym a) in
    ap (λ (t : List (Outcome Run)). gives r ∷ t) (rw (y, t) at ih) ∙ sym m
calls-give file rest c place xs (ended d s e) =
    sym (walks.ended file rest c place (sym (said file rest c place d ends s (ap told_step e))))
calls-give file rest c place xs (refused d r s e) =
    sym (walks.refused file rest c place r (sym (said file rest c place d (refuses r) s (ap told_step e))))

-- a result that tells an answer
told-by : Answer Run → Result (Option Run) Refusal
told-by (gives r) = Ok (Some r)
told-by ends = Ok None
told-by (refuses r) = Err r

told-again : (a : Answer Run) → told_step (told-by a) ≡ a
unfolding told-by
told-again (gives r) = refl
told-again ends = refl
told-again (refuses r) = refl

-- the step's result, by the definition
result-of : List ℕ → Carried → Answer Run → Decoded
result-of rest c a = record { answer = told-by a; carried = carried_after c a; taken = taken_by rest a }

module _ (file : RecordNumber) where
  made-so : (rest : List ℕ) (c : Carried) (place : ℕ) (a : Answer Run) → run_of rest c file place ≡ a
      → Steps file rest c place (result-of rest c a)
  unfolding result-of
  made-so rest c place a e =
      let k = sym e in
      record { answer = told-again a ∙ k; carried = ap (carried_after c) k; taken = ap (taken_by rest) k }

  made-by : (f : ℕ) (rest : List ℕ) (c : Carried) (place : ℕ) → length rest < f → (a : Answer Run)
      → run_of rest c file place ≡ a → Calls file rest c place (runs_from file rest c place)
  unfolding result-of told-by
  made-by zero rest c place l a e = absurd (omega arith)
  made-by (suc f) rest c place l (gives r) e =
      let s = shorter file rest c place r e in
      let on = carried_after c (gives r) in
      let at = place + run_size (head rest) in
      rw (walks.moved file rest c place r (sym e))
      (gave (result-of rest c (gives r)) r (made-so rest c place (gives r) e) refl
      (made-by f (left rest) on at (omega arith) (run_of (left rest) on file at) refl))
  made-by (suc f) rest c place l ends e =
      rw (walks.ended file rest c place (sym e)) (ended (result-of rest c ends) (made-so rest c place ends e) refl)
  made-by (suc f) rest c place l (refuses r) e =
      rw (walks.refused file rest c place r (sym e))
      (refused (result-of rest c (refuses r)) r (made-so rest c place (refuses r) e) refl)

pub calls-made : CallsCanBeMade
calls-made file rest c place =
    made-by file (suc (length rest)) rest c place (omega arith) (run_of rest c file place) refl

pub ends-stay : EndsStay
ends-stay file rest c place d s e =
    let a = said file rest c place d ends s (ap told_step e) in
    record { carried = s.carried ∙ ap (carried_after c) a; taken = s.taken ∙ ap (taken_by rest) a }

pub refusals-stay : RefusalsStay
refusals-stay file rest c place d r s e =
    let a = said file rest c place d (refuses r) s (ap told_step e) in
    record { carried = s.carried ∙ ap (carried_after c) a; taken = s.taken ∙ ap (taken_by rest) a }
