-- Bytes that go from an input to the end of those that were read before.
use Rattle.std.specs.Prelude.{ℕ, ◌-◌, ◌≡◌, List, [], ◌++◌, length, Option, Some, None, IfSome}
use Rattle.std.proofs.Common.{arith, refl, sym, subst, ap, ◌∙◌, inl, inr}
use Rattle.std.specs.Io.KnownBytes.{Consumes, Keeps, IsAtEnd}
use Rattle.std.proofs.KnownBytes.{Keeps-refl, Keeps-trans, Consumes-nil, Consumes-trans}
use Rattle.command.specs.Asked.{reach_for}
use Rattle.command.specs.declared.asked.Asked.{Asked}
use Rattle.command.specs.Moves.{Moves}
use Rattle.command.specs.Read.{IsEnough}

pub kept_consumes : (a b c : Option (List ℕ)) (bs : List ℕ) → Keeps a b → Consumes b c bs → Consumes a c bs
kept_consumes None b c bs k p = tt
kept_consumes (Some xs) None c bs k p = absurd k
kept_consumes (Some xs) (Some ys) None bs k p = absurd p
kept_consumes (Some xs) (Some ys) (Some zs) bs k p = sym k ∙ p

pub ruleset kept_first = (Keeps-refl, Keeps-trans, kept_consumes)

-- the reach is there
pub enough_now : (q : Asked) (a b : Option (List ℕ)) (t : List ℕ) → Consumes a b t → reach_for q t - length t ≡ 0
    → IfSome a (IsEnough q t)
enough_now q None b t p l = tt
enough_now q (Some xs) None t p l = absurd p
enough_now q (Some xs) (Some ys) t p l = (ys, p, inl (omega arith))

-- the input is at its end
enough_end : (q : Asked) (a b : Option (List ℕ)) (t : List ℕ) → Consumes a b t → IsAtEnd b
    → IfSome a (IsEnough q t)
enough_end q None b t p e = tt
enough_end q (Some xs) None t p e = absurd p
enough_end q (Some xs) (Some ys) t p e = ([], p ∙ ap (λ (x : List ℕ). t ++ x) e, inr refl)

pub moved_on : (a b c : Option (List ℕ)) (t u : List ℕ) (n : ℕ) → Consumes a b t → Moves b c t u n → Consumes a c u
moved_on a b c t u n p m = subst (Consumes a c) (sym m.grown) (Consumes-trans a b c t m.bytes p m.taken)

pub moved_last : (q : Asked) (a b c : Option (List ℕ)) (t u : List ℕ) (n : ℕ) → Consumes a b t → Moves b c t u n
    → n ≡ 0 → IfSome a (IsEnough q u)
moved_last q a b c t u n p m e = enough_end q a c u (moved_on a b c t u n p m) (m.last e)

pub ruleset moved_bytes = (Consumes-nil, enough_now, moved_on, moved_last)
