-- What is read is spelled so: the bytes of a run that is given are those that its sizes spell.
use Rattle.std.proofs.Common.{ℕ, zero, suc, ◌+◌, ◌*◌, ◌<◌, ◌≤◌, ◌≡◌, refl, sym, ap, ◌∙◌, subst, arith}
use Rattle.std.proofs.Common.{List, [], ◌∷◌, ◌++◌, length, take, drop, get_or, length-append}
use Rattle.std.specs.Prelude.{Option, Some, None, ◌⊎◌}
use Rattle.std.proofs.Common.{inl, inr}
use Rattle.std.proofs.lemmas.List.{append_assoc, drop-drop, get_or-drop, take-append-drop}
use Rattle.std.proofs.lemmas.Bool.Decides.{nat_tests}
use native.Mathlib.Nat.{add-zero}
use Rattle.fields.specs.LeBytes.{le_bytes}
use Rattle.fields.specs.Answer.{Answer, gives, ends, refuses, Outcome}
use Rattle.fields.specs.declared.RecordNumber.{RecordNumber}
use Rattle.fields.proofs.Width.{fit, write-back}
use Rattle.runs.specs.Run.{start_of, length_size, distance_size, run_size, head, run_length, run_distance}
use Rattle.runs.specs.Run.{begun, placed, run_of}
use Rattle.runs.specs.Runs.{runs_from}
use Rattle.runs.specs.Spelled.{Sized, spell, spelled, behind_run, behind_all, CanWrite}
use Rattle.runs.specs.Laws.{Stopped, SpelledAtFront, WhatIsReadIsSpelled}
use Rattle.runs.specs.declared.run.Run.{Run}
use Rattle.runs.specs.declared.run.Run.TheVariants.{Clusters, Hole}
use Rattle.runs.specs.declared.run.Carried.{Carried}
use Rattle.runs.proofs.Distances.{lie-so-far}
use Rattle.runs.proofs.Spelled.{Passes, back-of, same-behind}
use Rattle.runs.proofs.Calls.{left, shorter}
use Rattle.runs.proofs.Walks as walks

-- a hole, or a run whose distance leads to its start
data Given (rest : List ℕ) (c : Carried) : Run → Type 0 where
  hole : distance_size (head rest) ≡ 0 → Given rest c (Hole (run_length rest))
  begins : (s : ℕ) → 1 ≤ distance_size (head rest)
      → start_of (distance_size (head rest)) (run_distance rest) c.last ≡ Some s
      → Given rest c (Clusters (record { 0 = s }) (run_length rest))

module _ (rest : List ℕ) (c : Carried) (file : RecordNumber) (place : ℕ) (r : Run) where
  by-start : (o : Option ℕ) → start_of (distance_size (head rest)) (run_distance rest) c.last ≡ o
      → begun rest c file place o ≡ gives r → 1 ≤ distance_size (head rest) → Given rest c r
  by-start None e g l = absurd (cc)
  by-start (Some s) e g l =
      let k : Clusters (record { 0 = s }) (run_length rest) ≡ r = cc in
      subst (λ (v : Run). Given rest c v) k (begins s l e)

  hole-or-begun : placed rest c file place ≡ gives r
      → ((distance_size (head rest) ≡ 0) × (Hole (run_length rest) ≡ r))
      ⊎ ((1 ≤ distance_size (head rest))
      × (begun rest c file place (start_of (distance_size (head rest)) (run_distance rest) c.last) ≡ gives r))
  unfolding placed
  hole-or-begun g = grind (arith, nat_tests)

  pub read-passes : run_of rest c file place ≡ gives r
      → Passes rest c (length_size (head rest)) (distance_size (head rest)) (run_length rest)
  unfolding run_of placed
  read-passes e =
      record {
        first = refl;
        second = refl;
        number = refl;
        some = grind (arith, nat_tests);
        narrow = grind (arith, nat_tests);
        short = grind (arith, nat_tests);
        there = grind (arith, nat_tests);
        full = grind (arith, nat_tests);
        sum = grind (arith, nat_tests);
      }

  read-placed : run_of rest c file place ≡ gives r → placed rest c file place ≡ gives r
  unfolding run_of
  read-placed e = grind (arith, nat_tests)

  read-given : run_of rest c file place ≡ gives r → Given rest c r
  read-given e =
      elim (hole-or-begun (read-placed e)) [
        | inl h ↦ subst (λ (v : Run). Given rest c v) h.1 (hole h.0)
        | inr h ↦ by-start (start_of (distance_size (head rest)) (run_distance rest) c.last) refl h.1 h.0
      ]

-- bytes that were read, written again
module _ (rest : List ℕ) (small : (k : ℕ) → get_or rest k 0 < 256) where
  length-again : 1 + length_size (head rest) ≤ length rest
      → le_bytes (length_size (head rest)) (run_length rest) ≡ take (length_size (head rest)) (drop 1 rest)
  length-again l = write-back (length_size (head rest)) rest 1 small l

  distance-again : run_size (head rest) ≤ length rest → le_bytes (distance_size (head rest)) (run_distance rest)
      ≡ take (distance_size (head rest)) (drop (1 + length_size (head rest)) rest)
  distance-again l = write-back (distance_size (head rest)) rest (1 + length_size (head rest)) small l

-- a bytes, b bytes and what is left
in-parts : (t : List ℕ) (a b : ℕ) → (take a t ++ take b (drop a t)) ++ drop (a + b) t ≡ t
in-parts t a b =
    let e = take-append-drop a t in
    let f = take-append-drop b (drop a t) in
    let g = drop-drop b a t in
    append_assoc (take a t) (take b (drop a t)) (drop (a + b) t)
    ∙ ap (λ (z : List ℕ). take a t ++ z) (ap (λ (z : List ℕ). take b (drop a t) ++ z) (sym g) ∙ f) ∙ e

-- behind a header
in-three : (rest : List ℕ) (a b : ℕ) → 1 ≤ length rest
    → (head rest ∷ (take a (drop 1 rest) ++ take b (drop (1 + a) rest))) ++ drop (1 + a + b) rest ≡ rest
in-three [] a b l = absurd (omega arith)
in-three (h ∷ t) a b l =
    let p : 1 + a ≡ suc a = omega arith in
    let q : 1 + a + b ≡ suc (a + b) = omega arith in
    rw (q, p) (ap (λ (z : List ℕ). h ∷ z) (in-parts t a b))

-- the sizes that a run was read with
abbrev read-sized : List ℕ → Run → Sized
read-sized rest r = record { run = r; length_size = length_size (head rest); distance_size = distance_size (head rest) }

pub record Again (rest : List ℕ) (c : Carried) (r : Run) : Type 0 where
  pub can : CanWrite c (read-sized rest r)
  pub bytes : spell c (read-sized rest r) ++ left rest ≡ rest

module _ (rest : List ℕ) (c : Carried) (small : (k : ℕ) → get_or rest k 0 < 256) where
  again : (r : Run) → Given rest c r
      → Passes rest c (length_size (head rest)) (distance_size (head rest)) (run_length rest) → Again rest c r
  unfolding spell
  again _ (hole z) p =
      let some = p.some in let narrow = p.narrow in let short = p.short in let there = p.there in
      let f = fit (length_size (head rest)) rest 1 small in
      let h : length_size (head rest) + 16 * distance_size (head rest) ≡ head rest = omega arith in
      let x = length-again rest small (omega arith) in
      let t : take (distance_size (head rest)) (drop (1 + length_size (head rest)) rest) ≡ [] = rw z refl in
      let e = in-three rest (length_size (head rest)) (distance_size (head rest)) (omega arith) in
      record {
        can = record {
          full = p.full;
          some = p.some;
          narrow = p.narrow;
          fits = f;
          start = z;
          sum = p.sum;
        };
        bytes = rw (h, x, ← t) e;
      }
  again _ (begins s l e) p =
      let some = p.some in let narrow = p.narrow in let short = p.short in let there = p.there in
      let h : length_size (head rest) + 16 * distance_size (head rest) ≡ head rest = omega arith in
      let x = length-again rest small (omega arith) in
      let y = distance-again rest small there in
      let d = fit (distance_size (head rest)) rest (1 + length_size (head rest)) small in
      let t = lie-so-far (distance_size (head rest)) (run_distance rest) c.last s d e in
      let v = t.distance in
      record {
        can = record {
          full = p.full;
          some = p.some;
          narrow = p.narrow;
          fits = fit (length_size (head rest)) rest 1 small;
          start = record { some = l; narrow = p.short; reaches = t.reaches; ranges = t.ranges };
          sum = p.sum;
        };
        bytes = rw (h, x, v, y) (in-three rest (length_size (head rest)) (distance_size (head rest)) (omega arith));
      }

  pub read-again : (r : Run) (file : RecordNumber) (place : ℕ) → run_of rest c file place ≡ gives r → Again rest c r
  read-again r file place e = again r (read-given rest c file place r e) (read-passes rest c file place r e)

module _ (file : RecordNumber) where
  -- a run that was given is spelled before those behind it
  one-more : (rest : List ℕ) (c : Carried) (place : ℕ) (r : Run) → run_of rest c file place ≡ gives r → Again rest c r
      → SpelledAtFront file (left rest) (behind_run c r) (place + run_size (head rest))
      → SpelledAtFront file rest c place
  unfolding spelled behind_all
  one-more rest c place r e a q =
      let x = read-sized rest r in
      let on = behind_run c r in
      let b = back-of c r (length_size (head rest)) (distance_size (head rest)) (left rest) file place a.can in
      let z : run_size (head rest) ≡ length (spell c x) = rw a.bytes at b.size in
      let n = length-append (spell c x) (spelled on q.front) in
      let m = rw (same-behind c r) at (walks.moved file rest c place r (sym e)) in
      let k : place + run_size (head rest) + length (spelled on q.front)
      ≡ place + length (spell c x ++ spelled on q.front) = omega arith in
      record {
        front = x ∷ q.front;
        more = q.more;
        bytes = sym a.bytes ∙ ap (λ (t : List ℕ). spell c x ++ t) q.bytes
            ∙ sym (append_assoc (spell c x) (spelled on q.front) q.more);
        written = (a.can, q.written);
        behind = q.behind;
        left = q.left ∙ ap (runs_from file q.more (behind_all on q.front)) k;
        stopped = q.stopped;
        given = m ∙ ap (λ (t : List (Outcome Run)). gives r ∷ t) q.given;
      }

  nothing : (rest : List ℕ) (c : Carried) (place : ℕ) (xs : List (Outcome Run)) → runs_from file rest c place ≡ xs
      → Stopped xs → SpelledAtFront file rest c place
  unfolding spelled behind_all
  nothing rest c place xs e s =
      record {
        front = [];
        more = rest;
        bytes = refl;
        written = tt;
        behind = xs;
        left = sym e ∙ ap (runs_from file rest c) (sym (add-zero place));
        stopped = s;
        given = e;
      }

  -- at most f runs are left
  front-by : (f : ℕ) (rest : List ℕ) (c : Carried) (place : ℕ) → length rest < f → ((k : ℕ) → get_or rest k 0 < 256)
      → (a : Answer Run) → run_of rest c file place ≡ a → SpelledAtFront file rest c place
  front-by zero rest c place l small a e = absurd (omega arith)
  front-by (suc f) rest c place l small (gives r) e =
      let s = shorter file rest c place r e in
      let below : (k : ℕ) → get_or (left rest) k 0 < 256
      = λ k. rw (get_or-drop (run_size (head rest)) rest k 0) (small (run_size (head rest) + k)) in
      one-more rest c place r e (read-again rest c small r file place e)
      (front-by f (left rest) (behind_run c r) (place + run_size (head rest)) (omega arith) below
      (run_of (left rest) (behind_run c r) file (place + run_size (head rest))) refl)
  front-by (suc f) rest c place l small ends e = nothing rest c place [] (walks.ended file rest c place (sym e)) tt
  front-by (suc f) rest c place l small (refuses r) e =
      nothing rest c place (refuses r ∷ []) (walks.refused file rest c place r (sym e)) refl

pub what-is-read-is-spelled : WhatIsReadIsSpelled
what-is-read-is-spelled file rest c place small =
    front-by file (suc (length rest)) rest c place (omega arith) small (run_of rest c file place) refl
