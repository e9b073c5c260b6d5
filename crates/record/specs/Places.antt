-- RULES 5: where each answer of a raw walk stands, by its number. It is what the laws on a reader speak of.
use Rattle.std.specs.Prelude.{ℕ, zero, suc, ◌+◌, List, [], ◌∷◌}
use Rattle.fields.specs.Answer.{Outcome, gives, refuses}
use Rattle.fields.specs.declared.RecordNumber.{RecordNumber}
use Rattle.record.specs.Header.{first_attribute}
use Rattle.record.specs.Walk.{attributes_of}
use Rattle.record.specs.declared.layout.Attribute.{Attribute}

-- the place of an answer of a walk, by its number: behind the attributes before it
unfoldable pub past : List (Outcome Attribute) → ℕ → ℕ → ℕ
past [] at k = at
past (refuses r ∷ xs) at k = at
past (gives h ∷ xs) at zero = at
past (gives h ∷ xs) at (suc k) = past xs (at + h.length) k

-- where a reader stands after so many takes from the start
unfoldable pub place_of : List ℕ → RecordNumber → ℕ → ℕ
place_of s n k = past (attributes_of s n) (first_attribute s) k
