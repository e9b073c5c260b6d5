-- RULES 12: the attribute with a type and an instance, the first in raw order; before it 3 to 6 and 28 refuse, without
-- it the caller's 18.
use Rattle.std.specs.Prelude.{ℕ, List, [], ◌∷◌, ◌&&◌, eqb, length}
use Rattle.fields.specs.Pick.{pick}
use Rattle.fields.specs.Answer.{Outcome, gives, refuses, refusal, Report, report}
use Rattle.fields.specs.declared.Cause.TheVariants.{UnknownType}
use Rattle.fields.specs.Known.{known_type}
use Rattle.fields.specs.declared.RecordNumber.{RecordNumber}
use Rattle.fields.specs.declared.Refusal.{Refusal}
use Rattle.record.specs.declared.layout.Attribute.{Attribute}

-- what a search answers, and the attributes that it read, in order (RULES 17)
pub record Searched : Type 0 where
  pub answer : Outcome Attribute
  pub read : List Attribute

abbrev pub finds : Outcome Attribute → Searched
finds a = record { answer = a; read = [] }

abbrev pub behind_one : Attribute → Searched → Searched
behind_one h x = record { answer = x.answer; read = h ∷ x.read }

-- the count is how many were read
abbrev pub count_of : Searched → Report Attribute
count_of x = report x.answer (length x.read)

module _ (n : RecordNumber) (ty instance : ℕ) (miss : Refusal) where
  -- over what a raw walk gives
  unfoldable pub find_in : List (Outcome Attribute) → Searched
  find_in [] = finds (refuses miss)
  find_in (refuses r ∷ xs) = finds (refuses r)
  find_in (gives h ∷ xs) =
      behind_one h
      (pick (known_type h.ty)
      (pick (eqb h.ty ty && eqb h.instance instance) (finds (gives h)) (find_in xs))
      (finds (refuses (refusal UnknownType n h.offset))))
