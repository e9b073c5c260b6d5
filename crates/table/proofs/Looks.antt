-- How many looks are few: a look at the middle leaves half of the rows at most, so it halves the power of 2 that they
-- are below.
use Rattle.std.proofs.Common.{ℕ, zero, suc, ◌+◌, ◌^◌, ◌<◌, ◌≤◌, ◌≡◌, arith}
use native.Mathlib.Nat.{pow-succ'}
use Rattle.std.proofs.Math.Nat.{pow-le-pow_right, lt_of_not-le}
use Rattle.table.specs.Laws.{FewByLog, FewOfNone, FewOfMost}

-- of j looks from the count a on, those that are left at the count k are enough for w rows
pub record Left (a j k w : ℕ) : Type 0 where
  pub looks : ℕ
  pub adds : k + looks ≡ a + j
  pub below : w < 2 ^ looks

-- a search of n rows began at the count a; at the count k it has w rows left
pub record Looked (n a k w : ℕ) : Type 0 where
  pub left : (j : ℕ) → n < 2 ^ j → Left a j k w

pub before_looks : (n a : ℕ) → Looked n a a n
before_looks n a = record { left = λ j l. record { looks = j; adds = omega arith; below = l } }

one-less : (a j k m w v l : ℕ) → k + l ≡ a + j → m ≡ k + 1 → w < 2 ^ l → 0 < w → v + v ≤ w → Left a j m v
one-less a j k m w v zero e f b p q = absurd (omega arith)
one-less a j k m w v (suc l) e f b p q =
    let s = pow-succ' 2 l in record { looks = l; adds = omega arith; below = omega arith }

-- a look at one of w rows, behind which half of them are left at most
pub look_on : (n a k m w v : ℕ) → Looked n a k w → m ≡ k + 1 → 0 < w → v + v ≤ w → Looked n a m v
look_on n a k m w v s f p q =
    record { left = λ j l. let x = s.left j l in one-less a j k m w v x.looks x.adds f x.below p q }

pub few_looks : (n a k w j : ℕ) → Looked n a k w → n < 2 ^ j → k ≤ a + j
few_looks n a k w j s l = let x = s.left j l in let e = x.adds in omega arith

-- the number of rows settles its powers of 2
above : (n i j : ℕ) → 2 ^ j ≤ n → n < 2 ^ i → j < i
above n i j a b =
    let far : i ≤ j → ⊥ = λ m. let p : 2 ^ i ≤ 2 ^ j = pow-le-pow_right (omega arith) m in omega arith in
    lt_of_not-le far

-- what few looks are, by the logarithm
pub few_by_log : FewByLog
few_by_log n j k a b = (λ f. omega (arith, f (j + 1) b), λ l i c. omega (arith, above n i j a c))

pub few_of_none : FewOfNone
few_of_none k f = omega (arith, f 0 (omega arith))

pub few_of_most : FewOfMost
few_of_most = (
  λ j l. omega (arith, above 4096 j 12 (omega arith) l),
  λ f. omega (arith, f 13 (omega arith)),
  λ j l. omega (arith, above 4095 j 11 (omega arith) l),
  λ f. omega (arith, f 12 (omega arith)),
)
