-- A write that fails: within a line in front, or behind it.
use Rattle.std.specs.Prelude.{ℕ, List, ◌++◌, Option}
use Rattle.std.specs.Io.KnownBytes.{Appends}
use Rattle.std.proofs.Common.{sym, ap, ◌∙◌, append_assoc}
use Rattle.std.proofs.KnownBytes.{Appends-trans}
use Rattle.lines.specs.Went.{StopsWithin}

pub stops_in_front : (a b : Option (List ℕ)) (line more : List ℕ) → StopsWithin a b line
    → StopsWithin a b (line ++ more)
stops_in_front a b line more (rest, (done, p, e)) =
    (rest ++ more, (done, p, sym (append_assoc done rest more) ∙ ap (λ (t : List ℕ). t ++ more) e))

pub stops_behind : (a b c : Option (List ℕ)) (line text : List ℕ) → Appends a b line → StopsWithin b c text
    → StopsWithin a c (line ++ text)
stops_behind a b c line text p (rest, (done, q, e)) = (
  rest,
  (
    line ++ done,
    Appends-trans a b c line done p q,
    append_assoc line done rest ∙ ap (λ (t : List ℕ). line ++ t) e,
  ),
)
