-- What a place of the walk is worth: the reads that can still come, in numbers alone. Each read is paid by what the
-- worth falls.
use Prim.Native.Nat.{ℕ, ◌+◌, ◌*◌, ◌/◌, ◌≤◌}
use native.Mathlib.Nat.{mul-le-mul_right}
use native.Mathlib.Omega.{arith}
use Rattle.bound.specs.Listing.{most}

-- how many attributes, and how many entries, fit in n bytes
unfoldable pub R : ℕ → ℕ
R n = n / 16

unfoldable pub E : ℕ → ℕ
E n = n / 26

pub R-step : (k n : ℕ) → k + 16 ≤ n → R k + 1 ≤ R n
unfolding R
R-step k n h = omega arith

pub E-step : (k n : ℕ) → k + 26 ≤ n → E k + 1 ≤ E n
unfolding E
E-step k n h = omega arith

pub E-mono : (k n : ℕ) → k ≤ n → E k ≤ E n
unfolding E
E-mono k n h = omega arith

-- r attributes can be read yet by the raw walk; x entries by the walk, each with a lookup of A attributes and one
-- entry more that ends its item's parts; y entries by parts, each with a lookup
unfoldable pub val : ℕ → ℕ → ℕ → ℕ → ℕ
val A r x y = r + x * (2 + A) + y * (1 + A)

module _ (A r x y r' x' y' : ℕ) where
  -- nothing is read
  pub val-pass : r' ≤ r → x' ≤ x → y' ≤ y → 0 + val A r' x' y' ≤ val A r x y
  unfolding val
  val-pass hr hx hy = omega (arith, mul-le-mul_right (2 + A) hx, mul-le-mul_right (1 + A) hy)

  -- an attribute of the raw walk
  pub val-raw : r' + 1 ≤ r → x' ≤ x → y' ≤ y → 1 + val A r' x' y' ≤ val A r x y
  unfolding val
  val-raw hr hx hy = omega (arith, mul-le-mul_right (2 + A) hx, mul-le-mul_right (1 + A) hy)

  -- an entry with its lookup
  pub val-entry : (n : ℕ) → n ≤ A → r' ≤ r → x' + 1 ≤ x → y' ≤ y → n + 1 + val A r' x' y' ≤ val A r x y
  unfolding val
  val-entry n hn hr hx hy = omega (arith, mul-le-mul_right (2 + A) hx, mul-le-mul_right (1 + A) hy)

  -- an entry with its lookup and the parts of its item, which read c
  pub val-item : (n c : ℕ) → n ≤ A → r' ≤ r → x' + 1 ≤ x → c + y' * (1 + A) ≤ 1 + y * (1 + A)
      → n + 1 + c + val A r' x' y' ≤ val A r x y
  unfolding val
  val-item n c hn hr hx hc = omega (arith, mul-le-mul_right (2 + A) hx)

pub val-one : (A r x y : ℕ) → 1 ≤ r → 1 ≤ val A r x y
unfolding val
val-one A r x y h = omega arith

pub val-some : (A r x y n : ℕ) → n ≤ A → 1 ≤ x → n + 1 ≤ val A r x y
unfolding val
val-some A r x y n h k = omega (arith, mul-le-mul_right (2 + A) k)

-- an entry of the parts and its lookup, before others
pub pay-part : (A n c x y z : ℕ) → n ≤ A → x + 1 ≤ y → c + z * (1 + A) ≤ 1 + x * (1 + A)
    → n + 1 + c + z * (1 + A) ≤ 1 + y * (1 + A)
pay-part A n c x y z hn hx hc = omega (arith, mul-le-mul_right (1 + A) hx)

-- and the last of them
pub pay-last : (A c x y : ℕ) → c ≤ A + 1 → x + 1 ≤ y → c + x * (1 + A) ≤ 1 + y * (1 + A)
pay-last A c x y hc hx = omega (arith, mul-le-mul_right (1 + A) hx)

-- with no more than m bytes left it is worth no more
pub val-fresh : (m p q g : ℕ) → p ≤ m → q ≤ m → g ≤ m → val (m / 16) (R p) (E q) (E g) ≤ most m
unfolding val
val-fresh m p q g hp hq hg =
    let hr : R p ≤ m / 16 = unfold R in omega arith in
    let hx : E q ≤ m / 26 = unfold E in omega arith in
    let hy : E g ≤ m / 26 = unfold E in omega arith in
    go (m / 16) (m / 26) (R p) (E q) (E g) hr hx hy
  where
    go : (A e r x y : ℕ) → r ≤ A → x ≤ e → y ≤ e → r + x * (2 + A) + y * (1 + A) ≤ A + 3 * e + 2 * (e * A)
    go A e r x y hr hx hy = omega (arith, mul-le-mul_right (2 + A) hx, mul-le-mul_right (1 + A) hy)
