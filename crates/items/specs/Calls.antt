-- RULES 14: a walk as a whole. The calls of next one after another, each from the state that the one before left,
-- and the items that they give.
use Rattle.std.specs.Prelude.{ℕ, zero, suc, List, [], ◌∷◌, length, Option}
use Rattle.fields.specs.Answer.{Answer, gives, ends, refuses, Outcome}
use Rattle.fields.specs.declared.RecordNumber.{RecordNumber}
use Rattle.items.specs.State.{fresh_of, weight}
use Rattle.items.specs.Items.{Left, next_of}
use Rattle.items.specs.declared.walk.Item.{Item}
use Rattle.items.specs.declared.walk.State.{State}

module _ (s : List ℕ) (n : RecordNumber) (look : RecordNumber → Option (List ℕ)) where
  -- the calls behind one, where k gives those from a state: the end and a refusal are the last
  unfoldable pub onward : (State → List Left) → State → Answer Item → List Left
  onward k w (gives i) = k w
  onward k w ends = []
  onward k w (refuses r) = []

  abbrev pub behind_call : (State → List Left) → Left → List Left
  behind_call k l = l ∷ onward k l.left l.answer

  -- at most f calls from a state
  unfoldable pub calls : ℕ → State → List Left
  calls zero w = []
  calls (suc f) w = behind_call (calls f) (next_of s n look w)

  -- each item lowers what is left to read, so that one call more than its weight suffices
  unfoldable pub calls_from : State → List Left
  calls_from w = calls (suc (weight (length s) w)) w

-- what a call gives, and then the others; a refusal is the last
unfoldable pub answered : Answer Item → List (Outcome Item) → List (Outcome Item)
answered (gives i) xs = gives i ∷ xs
answered ends xs = []
answered (refuses r) xs = refuses r ∷ []

unfoldable pub items_in : List Left → List (Outcome Item)
items_in [] = []
items_in (l ∷ ls) = answered l.answer (items_in ls)

-- the items of a walk from a state on, and a refusal where one stops it
unfoldable pub items_from : List ℕ → RecordNumber → (RecordNumber → Option (List ℕ)) → State → List (Outcome Item)
items_from s n look w = items_in (calls_from s n look w)

-- the items of a file
unfoldable pub items_of : List ℕ → RecordNumber → (RecordNumber → Option (List ℕ)) → List (Outcome Item)
items_of s n look = items_from s n look (fresh_of s)
