-- Runs are read as they are spelled.
use Rattle.std.proofs.Common.{ℕ, zero, suc, ◌+◌, ◌*◌, ◌/◌, ◌%◌, ◌^◌, ◌<◌, ◌≤◌, ◌≡◌, refl, sym, ap, ◌∙◌, arith}
use Rattle.std.proofs.Common.{List, [], ◌∷◌, ◌++◌, length, drop, length-append}
use Rattle.std.specs.Prelude.{Some}
use Rattle.std.proofs.lemmas.List.{append_assoc, drop_at, get_or-drop}
use Rattle.std.proofs.lemmas.Bool.Decides.{nat_tests}
use native.Mathlib.Nat.{add-zero, add_assoc}
use Rattle.fields.specs.Le.{le}
use Rattle.fields.specs.LeBytes.{le_bytes}
use Rattle.fields.specs.Answer.{gives, ends, Outcome}
use Rattle.fields.specs.declared.RecordNumber.{RecordNumber}
use Rattle.fields.proofs.Width.{read-back}
use Rattle.runs.specs.Run.{most, start_of, run_size, head}
use Rattle.runs.specs.Run.{placed, run_of, carried_after}
use Rattle.runs.specs.Runs.{runs_from}
use Rattle.runs.specs.Spelled.{distance, Sized, spell, spelled}
use Rattle.runs.specs.Spelled.{CanWrite, behind_run}
use Rattle.runs.specs.Laws.{ReadAsWritten}
use Rattle.runs.specs.declared.run.Run.{Run}
use Rattle.runs.specs.declared.run.Run.TheVariants.{Clusters, Hole}
use Rattle.runs.specs.declared.run.Carried.{Carried}
use Rattle.runs.proofs.Distances.{lead-back, reached}
use Rattle.runs.proofs.Walks as walks

-- a number is read behind other bytes as from the front
le-behind : (w : ℕ) (s : List ℕ) (i j : ℕ) → le w (drop i s) j ≡ le w s (i + j)
unfolding le
le-behind zero s i j = refl
le-behind (suc w) s i j = let e = le-behind w s i (j + 1) in let g = get_or-drop i s j 0 in rw (g, e, add_assoc) refl

length-le : (w n : ℕ) → length (le_bytes w n) ≡ w
unfolding le_bytes
length-le zero n = refl
length-le (suc w) n = ap suc (length-le w (n / 256))

read-at : (front more : List ℕ) (w n i : ℕ) → length front ≡ i → n < 256 ^ w
    → le w (front ++ (le_bytes w n ++ more)) i ≡ n
read-at front more w n i e l =
    let b = le-behind w (front ++ (le_bytes w n ++ more)) i 0 in
    let d = drop_at front (le_bytes w n ++ more) i e in
    let r = read-back w n more l in
    let z = add-zero i in
    ap (le w (front ++ (le_bytes w n ++ more))) (sym z) ∙ sym b ∙ ap (λ (s : List ℕ). le w s 0) d ∙ r

-- what the checks ask, of sizes a and b and a length n
pub record Passes (rest : List ℕ) (c : Carried) (a b n : ℕ) : Type 0 where
  pub first : head rest % 16 ≡ a
  pub second : head rest / 16 ≡ b
  pub number : le a rest 1 ≡ n
  pub some : 1 ≤ a
  pub narrow : a ≤ 8
  pub short : b ≤ 8
  pub there : 1 + a + b ≤ length rest
  pub full : 0 < n
  pub sum : c.sum + n ≤ most

module _ (rest : List ℕ) (c : Carried) (file : RecordNumber) (place a b n : ℕ) (p : Passes rest c a b n) where
  gives-hole : b ≡ 0 → run_of rest c file place ≡ gives (Hole n)
  unfolding run_of placed
  gives-hole z =
      let first = p.first in let second = p.second in let number = p.number in let some = p.some in
      let narrow = p.narrow in let short = p.short in let there = p.there in let full = p.full in let sum = p.sum in
      grind (arith, nat_tests)

  gives-clusters : (d s : ℕ) → 1 ≤ b → le b rest (1 + a) ≡ d → start_of b d c.last ≡ Some s
      → run_of rest c file place ≡ gives (Clusters (record { 0 = s }) n)
  unfolding run_of placed
  gives-clusters d s l e t =
      let first = p.first in let second = p.second in let number = p.number in let some = p.some in
      let narrow = p.narrow in let short = p.short in let there = p.there in let full = p.full in let sum = p.sum in
      grind (arith, nat_tests)

-- bytes of this form pass the checks, whatever stands behind
module _ (a b n : ℕ) (d more : List ℕ) (some : 1 ≤ a) (narrow : a ≤ 8) (short : b ≤ 8) (fits : n < 256 ^ a)
    (long : length d ≡ b) where
  abbrev bytes : List ℕ
  bytes = ((a + 16 * b) ∷ (le_bytes a n ++ d)) ++ more

  size-is : length ((a + 16 * b) ∷ (le_bytes a n ++ d)) ≡ run_size (a + 16 * b)
  size-is = let f = length-le a n in let g = length-append (le_bytes a n) d in omega arith

  number-is : le a bytes 1 ≡ n
  number-is =
      let e = append_assoc (le_bytes a n) d more in
      let r = read-at ((a + 16 * b) ∷ []) (d ++ more) a n 1 refl fits in
      rw e r

  distance-is : (k : ℕ) → k < 256 ^ b → d ≡ le_bytes b k → le b bytes (1 + a) ≡ k
  distance-is k l q =
      let e = append_assoc (le_bytes a n) d more in
      let f = length-le a n in
      let r = read-at ((a + 16 * b) ∷ le_bytes a n) more b k (1 + a) (omega arith) l in
      rw e (rw q r)

  passes : (c : Carried) → 0 < n → c.sum + n ≤ most → Passes bytes c a b n
  passes c full sum =
      let s = size-is in
      let g = length-append ((a + 16 * b) ∷ (le_bytes a n ++ d)) more in
      let h = number-is in
      record {
        first = omega arith;
        second = omega arith;
        number = h;
        some = some;
        narrow = narrow;
        short = short;
        there = omega arith;
        full = full;
        sum = sum;
      }

-- a spelled run is given, and takes what it was spelled with
pub record Back (c : Carried) (x : Sized) (more : List ℕ) (file : RecordNumber) (place : ℕ) : Type 0 where
  pub is : run_of (spell c x ++ more) c file place ≡ gives x.run
  pub size : run_size (head (spell c x ++ more)) ≡ length (spell c x)

pub back-of : (c : Carried) (r : Run) (a b : ℕ) (more : List ℕ) (file : RecordNumber) (place : ℕ)
    → CanWrite c (record { run = r; length_size = a; distance_size = b })
    → Back c (record { run = r; length_size = a; distance_size = b }) more file place
unfolding spell
back-of c (Hole l) a b more file place w =
    let z = w.start in
    let short : b ≤ 8 = omega arith in
    let long : length {A = ℕ} [] ≡ b = sym z in
    let p = passes a b l [] more w.some w.narrow short w.fits long c w.full w.sum in
    record {
      is = gives-hole (bytes a b l [] more w.some w.narrow short w.fits long) c file place a b l p z;
      size = sym (size-is a b l [] more w.some w.narrow short w.fits long);
    }
back-of c (Clusters s l) a b more file place w =
    let t = w.start in
    let d = distance b c.last s.0 in
    let long = length-le b d in
    let p = passes a b l (le_bytes b d) more w.some w.narrow t.narrow w.fits long c w.full w.sum in
    let q = distance-is a b l (le_bytes b d) more w.some w.narrow t.narrow w.fits long d
    (reached b c.last s.0 t.reaches) refl in
    record {
      is = gives-clusters (bytes a b l (le_bytes b d) more w.some w.narrow t.narrow w.fits long) c file place a b l p d
          s.0 t.some q (lead-back b c.last s.0 t.reaches t.ranges);
      size = sym (size-is a b l (le_bytes b d) more w.some w.narrow t.narrow w.fits long);
    }

-- the first of spelled runs is the first that is given, and the others come behind it
first-back : (c : Carried) (x : Sized) (more : List ℕ) (file : RecordNumber) (place : ℕ) → CanWrite c x
    → runs_from file (spell c x ++ more) c place
    ≡ gives x.run ∷ runs_from file more (carried_after c (gives x.run)) (place + length (spell c x))
first-back c x more file place w =
    let b = back-of c x.run x.length_size x.distance_size more file place w in
    let m = walks.moved file (spell c x ++ more) c place x.run (sym b.is) in
    let d = drop_at (spell c x) more (length (spell c x)) refl in
    rw (b.size, d) at m

none-back : (file : RecordNumber) (more : List ℕ) (c : Carried) (place : ℕ) → head more ≡ 0
    → run_of more c file place ≡ ends
unfolding run_of
none-back file more c place z = grind (arith, nat_tests)

-- what the definition carries on is what the next run is spelled from
pub same-behind : (c : Carried) (r : Run) → carried_after c (gives r) ≡ behind_run c r
same-behind c (Clusters s l) = refl
same-behind c (Hole l) = refl

pub read-as-written : ReadAsWritten
unfolding spelled
read-as-written file [] more c place w z = walks.ended file more c place (sym (none-back file more c place z))
read-as-written file (x ∷ xs) more c place w z =
    let on = spelled (behind_run c x.run) xs in
    let b = same-behind c x.run in
    let e = append_assoc (spell c x) on more in
    let f = rw b at (first-back c x (on ++ more) file place w.0) in
    let ih = read-as-written file xs more (behind_run c x.run) (place + length (spell c x)) w.1 z in
    ap (λ (s : List ℕ). runs_from file s c place) e ∙ f ∙ ap (λ (t : List (Outcome Run)). gives x.run ∷ t) ih
