-- Whether no refusal stopped entries: what the loops over lists ask of each other.
use Rattle.std.specs.Prelude.{List, [], ◌∷◌, Bool, true, false}
use Rattle.fields.specs.Answer.{Outcome, gives, refuses}
use Rattle.segments.specs.Placed.{Placed}

unfoldable pub is_whole : List (Outcome Placed) → Bool
is_whole [] = true
is_whole (refuses r ∷ ps) = false
is_whole (gives p ∷ ps) = is_whole ps
