-- The least sizes of a run fit it, and no smaller ones do.
use Rattle.std.proofs.Common.{ℕ, zero, suc, ◌+◌, ◌-◌, ◌*◌, ◌^◌, ◌<◌, ◌≤◌, ◌≡◌, Bool, true, refl, arith}
use Rattle.std.specs.Prelude.{◌&&◌, leb, ltb}
use Rattle.std.proofs.lemmas.Bool.Decides.{nat_tests}
use Rattle.runs.specs.Run.{most}
use Rattle.runs.specs.Spelled.{clusters, Starts, StartFits, StartRanges, start_size, first_size}
use Rattle.runs.specs.Spelled.{least_length, least_distance}
use Rattle.runs.specs.Laws.{LeastSizesFit}
use Rattle.runs.specs.declared.run.Run.{Run}
use Rattle.runs.specs.declared.run.Run.TheVariants.{Clusters, Hole}
use Rattle.runs.specs.declared.run.Carried.{Carried}

-- the search stays among its sizes, finds one that passes where the last one does, and none above one that passes
module _ (passes : ℕ → Bool) where
  record Found (w k : ℕ) : Type 0 where
    low : w ≤ first_size passes w k
    high : first_size passes w k ≤ w + k

  within : (w k : ℕ) → Found w k
  unfolding first_size
  within w zero = record { low = omega arith; high = omega arith }
  within w (suc k) =
      let q = within (suc w) k in let y = q.low in let z = q.high in
      record { low = grind (arith, nat_tests); high = grind (arith, nat_tests) }

  found : (w k : ℕ) → passes (w + k) ≡ true → passes (first_size passes w k) ≡ true
  unfolding first_size
  found w zero e = let z : w + 0 ≡ w = omega arith in rw z at e
  found w (suc k) e =
      let z : w + suc k ≡ suc w + k = omega arith in
      let q = found (suc w) k (rw z at e) in
      grind (arith, nat_tests)

  pub lowest : (w k v : ℕ) → w ≤ v → passes v ≡ true → first_size passes w k ≤ v
  unfolding first_size
  lowest w zero v l e = l
  lowest w (suc k) v l e =
      let q : suc w ≤ v → first_size passes (suc w) k ≤ v = λ m. lowest (suc w) k v m e in
      grind (arith, nat_tests)

abbrev holds : ℕ → ℕ → Bool
holds n w = ltb n (256 ^ w)

abbrev reaches : ℕ → ℕ → ℕ → Bool
reaches last start w = ltb (2 * (start - last)) (256 ^ w) && leb (2 * (last - start)) (256 ^ w)

length-among : (n : ℕ) → (1 ≤ least_length n) × (least_length n ≤ 8)
unfolding least_length
length-among n = let q = within (holds n) 1 7 in (q.low, q.high)

length-fits : (n : ℕ) → n ≤ most → n < 256 ^ least_length n
unfolding least_length
length-fits n m =
    let t : holds n 8 ≡ true = grind (arith, nat_tests) in
    let f : holds n (first_size (holds n) 1 7) ≡ true = found (holds n) 1 7 t in
    grind (arith, nat_tests)

length-least : (n w : ℕ) → 1 ≤ w → n < 256 ^ w → least_length n ≤ w
unfolding least_length
length-least n w l f =
    let t : holds n w ≡ true = grind (arith, nat_tests) in
    lowest (holds n) 1 7 w l t

distance-least : (last start w : ℕ) → Starts w last start → least_distance last start ≤ w
unfolding least_distance
distance-least last start w s =
    let a = s.reaches.ahead in let b = s.reaches.back in
    let t : reaches last start w ≡ true = grind (arith, nat_tests) in
    lowest (reaches last start) 1 7 w s.some t

distance-fits : (last start : ℕ) → last ≤ most → start ≤ most → Starts (least_distance last start) last start
unfolding least_distance
distance-fits last start l m =
    let q = within (reaches last start) 1 7 in
    let t : reaches last start 8 ≡ true = grind (arith, nat_tests) in
    let f : reaches last start (first_size (reaches last start) 1 7) ≡ true = found (reaches last start) 1 7 t in
    record {
      some = q.low;
      narrow = q.high;
      reaches = record { ahead = grind (arith, nat_tests); back = grind (arith, nat_tests) };
      ranges = m;
    }

start-fits : (c : Carried) (r : Run) → c.last ≤ most → StartRanges r → StartFits c r (start_size c r)
start-fits c (Clusters s l) m k = distance-fits c.last s.0 m k
start-fits c (Hole l) m k = refl

start-least : (c : Carried) (r : Run) (w : ℕ) → StartFits c r w → start_size c r ≤ w
start-least c (Clusters s l) w f = distance-least c.last s.0 w f
start-least c (Hole l) w f = omega arith

pub least-sizes-fit : LeastSizesFit
least-sizes-fit c r w =
    let n = length-among (clusters r) in
    let sum = w.sum in
    record {
      fits = record {
        full = w.full;
        some = n.0;
        narrow = n.1;
        fits = length-fits (clusters r) (omega arith);
        start = start-fits c r w.last w.start;
        sum = w.sum;
      };
      length = λ x k e. length-least (clusters r) x.length_size k.some (rw e at k.fits);
      distance = λ x k e. start-least c r x.distance_size (rw e at k.start);
    }
