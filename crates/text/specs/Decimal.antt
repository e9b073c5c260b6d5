-- Words and numbers of the listing (RULES 18): a number is in decimal, behind a space.
use Rattle.std.specs.Prelude.{ℕ, List, ◌∷◌, ◌++◌, flat_map, codes}
use Rattle.std.specs.Fmt.{decimal}
use Prim.Native.String.{String}

-- numbers, each behind a space
abbrev pub numbers : List ℕ → List ℕ
numbers ns = flat_map (λ n. 32 ∷ decimal n) ns

-- a word, and numbers behind it
abbrev pub words : String → List ℕ → List ℕ
words w ns = codes w ++ numbers ns
