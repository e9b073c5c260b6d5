-- A step is the first of the runs, and what comes from behind it is the rest.
use Rattle.std.proofs.Common.{ℕ, zero, suc, ◌+◌, ◌-◌, ◌<◌, ◌≤◌, ◌≡◌, refl, sym, ap, ◌∙◌, arith}
use Rattle.std.proofs.Common.{List, [], ◌∷◌, length, take, drop, slice_range, min}
use Rattle.std.proofs.lemmas.List.{length-drop, take_min}
use Rattle.std.proofs.Math.Seq.{take-length, drop-length, take-nil}
use Rattle.std.proofs.Math.ListN.{drop_of_length-le}
use Rattle.std.proofs.lemmas.Bool.{cases_lt}
use mathlib.Core.Logic.{⊎_elim}
use native.Mathlib.Nat.{min-eq_left, min-eq_right}
use Rattle.fields.specs.Answer.{Answer, Outcome, gives, ends, refuses}
use Rattle.fields.specs.declared.RecordNumber.{RecordNumber}
use Rattle.fields.specs.declared.Refusal.{Refusal}
use Rattle.runs.specs.Run.{head, run_size, run_of, carried_after, taken_by}
use Rattle.runs.specs.Runs.{behind, runs_by, runs_from, runs_of}
use Rattle.runs.specs.declared.run.Run.{Run}
use Rattle.runs.specs.declared.run.Carried.{Carried}
use Rattle.runs.proofs.Given.{of-run}

module _ (file : RecordNumber) where
  behind-same : (f g : ℕ) (rest : List ℕ) (c : Carried) (place : ℕ)
      → ((t : List ℕ) (d : Carried) (p : ℕ) → length t < f → length t < g → runs_by file f t d p ≡ runs_by file g t d p)
      → length rest < suc f → length rest < suc g → (a : Answer Run) → run_of rest c file place ≡ a
      → behind file (runs_by file f) rest c place a ≡ behind file (runs_by file g) rest c place a
  unfolding behind
  behind-same f g rest c place ih l k (gives r) e =
      let w = of-run rest c file place r e in let y = w.least in let z = w.most in
      let d = length-drop (run_size (head rest)) rest in
      ap (λ (t : List (Outcome Run)). gives r ∷ t)
      (ih (drop (run_size (head rest)) rest) (carried_after c (gives r)) (place + run_size (head rest)) (omega arith)
      (omega arith))
  behind-same f g rest c place ih l k ends e = refl
  behind-same f g rest c place ih l k (refuses r) e = refl

  -- any two numbers of steps that suffice give the same
  pub enough : (f g : ℕ) (rest : List ℕ) (c : Carried) (place : ℕ) → length rest < f → length rest < g
      → runs_by file f rest c place ≡ runs_by file g rest c place
  unfolding runs_by
  enough zero g rest c place l k = absurd (omega arith)
  enough (suc f) zero rest c place l k = absurd (omega arith)
  enough (suc f) (suc g) rest c place l k =
      behind-same f g rest c place (enough f g) l k (run_of rest c file place) refl

module _ (file : RecordNumber) (rest : List ℕ) (c : Carried) (place : ℕ) where
  pub moved : (r : Run) → gives r ≡ run_of rest c file place
      → runs_from file rest c place ≡ gives r ∷ runs_from file (drop (run_size (head rest)) rest)
      (carried_after c (gives r)) (place + run_size (head rest))
  unfolding runs_from runs_by behind
  moved r e =
      let w = of-run rest c file place r (sym e) in let y = w.least in let z = w.most in
      let d = length-drop (run_size (head rest)) rest in
      ap (behind file (runs_by file (length rest)) rest c place) (sym e)
      ∙ ap (λ (t : List (Outcome Run)). gives r ∷ t)
      (enough file (length rest) (suc (length (drop (run_size (head rest)) rest))) (drop (run_size (head rest)) rest)
      (carried_after c (gives r)) (place + run_size (head rest)) (omega arith) (omega arith))

  -- the same as the step's contract says it
  pub stepped : (r : Run) (k : ℕ) (d : Carried) → gives r ≡ run_of rest c file place
      → k ≡ taken_by rest (run_of rest c file place) → d ≡ carried_after c (run_of rest c file place)
      → runs_from file rest c place ≡ gives r ∷ runs_from file (slice_range rest k (length rest)) d (place + k)
  stepped r k d e t a =
      let s : slice_range rest k (length rest) ≡ drop k rest =
      ap (λ n. take n (drop k rest)) (sym (length-drop k rest)) ∙ take-length (drop k rest) in
      let f : k ≡ run_size (head rest) = t ∙ ap (taken_by rest) (sym e) in
      let g : d ≡ carried_after c (gives r) = a ∙ ap (carried_after c) (sym e) in
      rw (s, f, g) (moved r e)

  pub ended : ends ≡ run_of rest c file place → runs_from file rest c place ≡ []
  unfolding runs_from runs_by behind
  ended e = ap (behind file (runs_by file (length rest)) rest c place) (sym e)

  pub refused : (r : Refusal) → refuses r ≡ run_of rest c file place → runs_from file rest c place ≡ refuses r ∷ []
  unfolding runs_from runs_by behind
  refused r e = ap (behind file (runs_by file (length rest)) rest c place) (sym e)

-- of no bytes there are none
pub none : (file : RecordNumber) (c : Carried) (place : ℕ) → runs_from file [] c place ≡ []
unfolding runs_from runs_by behind run_of
none file c place = refl

pub ruleset walks = (stepped, ended, refused, none)

abbrev fresh : Carried
fresh = record { last = 0; sum = 0 }

-- bytes that are cut to what a record has are those from a place on, as far as it goes
module _ (file : RecordNumber) (s : List ℕ) (from b : ℕ) where
  inside : from ≤ length s → (f k : ℕ) → f ≡ min from (length s) → k ≡ min b (length (take (length s - f) (drop f s)))
      → runs_of file (take k (take (length s - f) (drop f s))) f ≡ runs_of file (take b (drop from s)) from
  inside h f k e g =
      let i : f ≡ from = e ∙ min-eq_left h in
      let l = length-drop from s in
      let t : take (length s - from) (drop from s) ≡ drop from s =
      ap (λ n. take n (drop from s)) (sym l) ∙ take-length (drop from s) in
      let u : k ≡ min b (length (drop from s)) = rw (i, t) at g in
      rw (i, t, u, take_min b (drop from s)) refl

  outside : length s < from → (f k : ℕ) → f ≡ min from (length s) → k ≡ min b (length (take (length s - f) (drop f s)))
      → runs_of file (take k (take (length s - f) (drop f s))) f ≡ runs_of file (take b (drop from s)) from
  outside h f k e g =
      let i : f ≡ length s = e ∙ min-eq_right (omega arith) in
      rw (
        i,
        drop-length s,
        drop_of_length-le s {i = from} (omega arith),
        take-nil (length s - length s),
        take-nil k,
        take-nil b,
      )
      (none file fresh (length s) ∙ sym (none file fresh from))

  pub clipped : (f k : ℕ) → f ≡ min from (length s) → k ≡ min b (length (take (length s - f) (drop f s)))
      → runs_of file (take k (take (length s - f) (drop f s))) f ≡ runs_of file (take b (drop from s)) from
  clipped = ⊎_elim outside inside (cases_lt (length s) from)
