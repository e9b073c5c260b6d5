-- RULES 26: the cases on both sides of each line.
use Rattle.std.specs.Prelude.{ℕ, ◌-◌, ◌≡◌, List, [], ◌∷◌, ◌++◌, map, take, replicate, Option, Some, None}
use Rattle.fields.specs.Answer.{Outcome, gives}
use Rattle.record.specs.Value.{Contents, resident}
use Rattle.filename.specs.Names.{long_in}

-- a value of so many bytes, with these units and namespace: 7 stands for each byte in front, 9 for each behind
abbrev pub value : ℕ → ℕ → ℕ → List ℕ
value size units space = take size (replicate 64 7 ++ (units ∷ space ∷ replicate (size - 66) 9))

-- a row: such a value, and its long name, if it has one
pub record Row : Type 0 where
  pub size : ℕ
  pub units : ℕ
  pub space : ℕ
  pub says : Option (List ℕ)

abbrev pub row : ℕ → ℕ → ℕ → Option (List ℕ) → Row
row size units space a = record { size = size; units = units; space = space; says = a }

abbrev pub nines : ℕ → Option (List ℕ)
nines k = Some (replicate k 9)

abbrev pub rows : List Row
rows =
    -- no units: 66 bytes have an empty name, 65 none
    row 66 0 0 (nines 0)
    ∷ row 65 0 0 None
    -- 3 units: 72 bytes have the name, 71 none; a byte more is not the name's
    ∷ row 72 3 0 (nines 6)
    ∷ row 71 3 0 None
    ∷ row 73 3 0 (nines 6)
    -- 255 units: 576 bytes have the name, 575 none
    ∷ row 576 255 0 (nines 510)
    ∷ row 575 255 0 None
    -- a name of namespace 0, 1 or 3 is long, one of 2, 4 or 255 is not
    ∷ row 68 1 0 (nines 2)
    ∷ row 68 1 1 (nines 2)
    ∷ row 68 1 2 None
    ∷ row 68 1 3 (nines 2)
    ∷ row 68 1 4 None
    ∷ row 68 1 255 None
    ∷ []

abbrev pub contents : Row → Outcome Contents
contents r = gives (resident (record { from = 0; bytes = value r.size r.units r.space }))

abbrev pub BothSides : Type 0
BothSides = map (λ r. long_in (contents r)) rows ≡ map (λ r. r.says) rows
