-- An extract's record size is above 0, and fits 16 bits.
use Rattle.std.specs.Prelude.{ℕ, ◌≤◌, ◌<◌, ◌≡◌, Bool, true, false, List, Some, None}
use Rattle.std.proofs.Common.{arith, refl, subst}
use Rattle.std.proofs.lemmas.Bool.Decides.{nat_tests}
use Rattle.fields.specs.Pick.{pick}
use Rattle.fields.specs.Answer.{Outcome, gives, refuses}
use Rattle.record.specs.Open.{Lent, open_of}
use Rattle.record.specs.Header.{header_of}
use Rattle.extract.specs.Size.{good_size}
use Rattle.command.specs.Extraction.{good_or_none, told_size, size_told}

pub size_above_0 : (n : ℕ) → good_size n ≡ true → 0 < n
unfolding good_size
size_above_0 n e = grind (arith, nat_tests)

size_fits : (n : ℕ) → good_size n ≡ true → n ≤ 4096
unfolding good_size
size_fits n e = grind (arith, nat_tests)

picked : (n k : ℕ) (b : Bool) → good_size n ≡ b → pick b (Some n) None ≡ Some k → k ≤ 4096
picked n k true e p = let q : n ≡ k = cc in subst (λ (x : ℕ). x ≤ 4096) q (size_fits n e)
picked n k false e p = let q : ⊥ = cc in absurd q

pub good_fits : (n k : ℕ) → good_or_none n ≡ Some k → k ≤ 4096
good_fits n k e = picked n k (good_size n) refl e

fits : (a : Outcome Lent) (k : ℕ) → told_size a ≡ Some k → k ≤ 4096
fits (gives r) k e = good_fits (header_of r.bytes).allocated k e
fits (refuses r) k e = let q : ⊥ = cc in absurd q

pub told_fits : (front : List ℕ) (k : ℕ) → size_told front ≡ Some k → k ≤ 4096
unfolding size_told
told_fits front k e = fits (open_of front (record { 0 = 0 })) k e

pub ruleset sizes_fit = (good_fits, told_fits)

-- a record size that is found is one that an extract's records may have
good_by : (n k : ℕ) (b : Bool) → good_size n ≡ b → pick b (Some n) None ≡ Some k → good_size k ≡ true
good_by n k true e p = let q : n ≡ k = cc in subst (λ (x : ℕ). good_size x ≡ true) q e
good_by n k false e p = let q : ⊥ = cc in absurd q

good_found : (n k : ℕ) → good_or_none n ≡ Some k → good_size k ≡ true
good_found n k e = good_by n k (good_size n) refl e

good_told : (a : Outcome Lent) (k : ℕ) → told_size a ≡ Some k → good_size k ≡ true
good_told (gives r) k e = good_found (header_of r.bytes).allocated k e
good_told (refuses r) k e = let q : ⊥ = cc in absurd q

pub good_front : (front : List ℕ) (k : ℕ) → size_told front ≡ Some k → good_size k ≡ true
unfolding size_told
good_front front k e = good_told (open_of front (record { 0 = 0 })) k e
