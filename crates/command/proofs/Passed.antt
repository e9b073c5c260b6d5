-- Bytes that are passed over.
use Rattle.std.specs.Prelude.{ℕ, ◌+◌, ◌≡◌, List, length, drop, Option, Some, None}
use Rattle.std.proofs.Common.{sym, ap, ◌∙◌}
use Rattle.std.proofs.Math.Seq.{drop-append_seam}
use Rattle.std.proofs.lemmas.List.{drop-drop}
use Rattle.std.specs.Io.KnownBytes.{Consumes}
use Rattle.command.specs.Passed.{Passes}

pub passes_more : (m n : ℕ) (a b c : Option (List ℕ)) (bs : List ℕ) → Passes m a b → Consumes b c bs
    → n ≡ m + length bs → Passes n a c
passes_more m n None b c bs p q e = tt
passes_more m n (Some xs) None c bs p q e = absurd p
passes_more m n (Some xs) (Some ys) None bs p q e = absurd q
passes_more m n (Some xs) (Some ys) (Some zs) bs p q e =
    sym
    (ap (λ (k : ℕ). drop k xs) e ∙ sym (drop-drop (length bs) m xs) ∙ ap (drop (length bs)) (sym p ∙ q)
    ∙ drop-append_seam bs zs)
