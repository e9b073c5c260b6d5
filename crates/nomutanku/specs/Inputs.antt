-- Which inputs are told: those that are named, or standard input, which `-` names, where none is and it has something
-- to give.
use Rattle.std.specs.Prelude.{ℕ, List, [], ◌∷◌, Option, Some, None, codes, map, option_map}
use Rattle.std.specs.Borrow.{Bor}
use Rattle.fields.specs.Pick.{pick}
use Rattle.command.specs.Given.{is_listed}
use Rattle.command.specs.declared.given.Given.{Given}

-- the names that are lent
abbrev pub names_of : Option (Bor (List (Bor (List ℕ)))) → Option (List (List ℕ))
names_of = option_map (λ names. map (λ name. name.now) names.now)

abbrev pub unnamed : Given → Option (List (List ℕ))
unnamed given = pick (is_listed given) (Some (codes "-" ∷ [])) None

abbrev pub inputs_of : Option (List (List ℕ)) → Given → Option (List (List ℕ))
inputs_of None given = unnamed given
inputs_of (Some []) given = unnamed given
inputs_of (Some (name ∷ names)) given = Some (name ∷ names)
