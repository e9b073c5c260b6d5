-- RULES 5: the reader. It stands at a place of a lent record, and each take is the raw step there.
use Rattle.std.specs.Prelude.{ℕ, zero, suc, ◌+◌, ◌≡◌, List, [], ◌∷◌, Option, Result}
use Rattle.fields.specs.Answer.{Outcome, Answer, gives, ends, refuses}
use Rattle.fields.specs.Told.{told_step}
use Rattle.fields.specs.declared.RecordNumber.{RecordNumber}
use Rattle.fields.specs.declared.Refusal.{Refusal}
use Rattle.record.specs.Walk.{step_at, attributes_of}
use Rattle.record.specs.declared.layout.Attribute.{Attribute}
use Rattle.record.specs.declared.reader.Reader.{Reader}

-- the place after an answer at a place: behind an attribute; the end and a refusal leave it
unfoldable pub place_after : ℕ → Answer Attribute → ℕ
place_after at (gives h) = at + h.length
place_after at ends = at
place_after at (refuses r) = at

-- a take from the reader q answers x and leaves the reader r
pub record Takes (q : Reader) (x : Result (Option Attribute) Refusal) (r : Reader) : Type 0 where
  pub answer : told_step x ≡ step_at q.within.bytes.now q.within.number q.at
  pub within : r.within ≡ q.within
  pub place : r.at ≡ place_after q.at (step_at q.within.bytes.now q.within.number q.at)

-- an answer of a walk by its number, from 0 on: past the last attribute what stops the walk, each time
unfoldable pub nth : List (Outcome Attribute) → ℕ → Answer Attribute
nth [] k = ends
nth (refuses r ∷ xs) k = refuses r
nth (gives h ∷ xs) zero = gives h
nth (gives h ∷ xs) (suc k) = nth xs k

-- what a reader answers after so many takes from the start
unfoldable pub answer_of : List ℕ → RecordNumber → ℕ → Answer Attribute
answer_of s n k = nth (attributes_of s n) k
