-- RULES 24.4: the numbers of a record and of those that its lists refer to, in rising order.
use Rattle.std.specs.Prelude.{List, [], ◌∷◌, ltb}
use Rattle.fields.specs.Pick.{pick}
use Rattle.fields.specs.declared.RecordNumber.{RecordNumber}

-- a number put in front of the first one that is larger
unfoldable pub placed : RecordNumber → List RecordNumber → List RecordNumber
placed m [] = m ∷ []
placed m (x ∷ xs) = pick (ltb m.0 x.0) (m ∷ x ∷ xs) (x ∷ placed m xs)

-- numbers in rising order
unfoldable pub sorted : List RecordNumber → List RecordNumber
sorted [] = []
sorted (m ∷ ms) = placed m (sorted ms)
