-- What is among some things is the first or among the others.
use Rattle.std.proofs.Common.{zero, suc, ◌≡◌, List, [], ◌∷◌, ◌++◌, map, refl, subst, arith}
use mathlib.Core.Logic.{◌⊎◌, inl, inr, ⊎_elim}
use Rattle.std.specs.List.{Contains}

module _ {A : Type 0} where
  pub head : (x : A) (xs : List A) → Contains (x ∷ xs) x
  head x xs = (0, omega arith, refl)

  pub tail : (y : A) (xs : List A) (x : A) → Contains xs x → Contains (y ∷ xs) x
  tail y xs x c = (suc c.0, omega (arith, c.1), c.2)

  pub none : (x : A) → Contains [] x → ⊥
  none x c = let h = c.1 in absurd (omega arith)

  pub uncons : (y : A) (xs : List A) (x : A) → Contains (y ∷ xs) x → (y ≡ x) ⊎ Contains xs x
  uncons y xs x (zero, h, e) = inl e
  uncons y xs x (suc i, h, e) = inr (i, omega arith, e)

  -- what is among some is among more
  pub deeper : (xs ys : List A) (x : A) → Contains ys x → Contains (xs ++ ys) x
  deeper [] ys x c = c
  deeper (y ∷ xs) ys x c = tail y (xs ++ ys) x (deeper xs ys x c)

  pub wider : (xs ys : List A) (x : A) → Contains xs x → Contains (xs ++ ys) x
  wider [] ys x c = absurd (none x c)
  wider (y ∷ xs) ys x c =
      ⊎_elim
      (λ (e : y ≡ x). subst (λ (z : A). Contains (y ∷ xs ++ ys) z) e (head y (xs ++ ys)))
      (λ (d : Contains xs x). tail y (xs ++ ys) x (wider xs ys x d))
      (uncons y xs x c)

pub mapped : {A B : Type 0} (f : A → B) (xs : List A) (x : A) → Contains xs x → Contains (map f xs) (f x)
mapped f [] x c = absurd (none x c)
mapped f (y ∷ xs) x c =
    ⊎_elim
    (λ (e : y ≡ x). subst (λ z. Contains (f y ∷ map f xs) (f z)) e (head (f y) (map f xs)))
    (λ (d : Contains xs x). tail (f y) (map f xs) (f x) (mapped f xs x d))
    (uncons y xs x c)
