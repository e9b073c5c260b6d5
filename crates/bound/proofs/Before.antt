-- Places of entries in the order of the walk: in an earlier list, or no later in the same.
use Prim.Native.Nat.{ℕ, ◌+◌, ◌≤◌, ◌<◌}
use mathlib.Core.Path.{◌≡◌, refl}
use mathlib.Core.Logic.{◌⊎◌, inl, inr}
use native.Mathlib.Omega.{arith}
use Rattle.items.specs.Read.{Spot, spot}

abbrev pub Before : Spot → Spot → Type 0
Before a b = (a.list < b.list) ⊎ ((a.list ≡ b.list) × (a.place ≤ b.place))

pub here : (l p q : ℕ) → p ≤ q → Before (spot l p) (spot l q)
here l p q h = inr (refl, h)

pub before-trans : (a b c : Spot) → Before a b → Before b c → Before a c
before-trans a b c (inl x) (inl y) = inl (omega arith)
before-trans a b c (inl x) (inr y) = inl (omega (arith, y.0))
before-trans a b c (inr x) (inl y) = inl (omega (arith, x.0))
before-trans a b c (inr x) (inr y) = inr (omega (arith, x.0, y.0), omega (arith, x.1, y.1))

-- past an entry
abbrev pub behind : Spot → Spot
behind x = spot x.list (x.place + 26)

pub not_behind : (x : Spot) → Before (behind x) x → ⊥
not_behind x (inl h) = omega arith
not_behind x (inr h) = omega (arith, h.1)

pub no-later : (a b : Spot) → Before a b → a.list ≤ b.list
no-later a b (inl h) = omega arith
no-later a b (inr h) = omega (arith, h.0)
