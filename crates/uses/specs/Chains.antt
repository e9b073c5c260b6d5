-- RULES 5, 14: what a caller of an iterator gives, over the list of the walk's answers.
use Rattle.std.specs.Prelude.{ℕ, ◌+◌, Bool, true, false, List, [], ◌∷◌, eqb}
use Rattle.fields.specs.Answer.{Outcome, gives, refuses}
use Rattle.record.specs.declared.layout.Attribute.{Attribute}
use Rattle.items.specs.declared.walk.Item.{Item}

-- a search for a type stops at an attribute of it, and at a refusal
abbrev pub stops_at : ℕ → Outcome Attribute → Bool
stops_at ty (gives h) = eqb h.ty ty
stops_at ty (refuses r) = true

-- whether an answer gives an item
abbrev pub is_given : Outcome Item → Bool
is_given (gives i) = true
is_given (refuses r) = false

-- k and the units of the items' names; a refusal is the answer
abbrev pub units_in : ℕ → List (Outcome Item) → Outcome ℕ
units_in k [] = gives k
units_in k (gives i ∷ xs) = units_in (k + i.attribute.name_units) xs
units_in k (refuses r ∷ xs) = refuses r
