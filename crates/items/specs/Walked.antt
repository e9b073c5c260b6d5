-- RULES 14, 17: what a call of the walk says, with its count.
use Rattle.std.specs.Prelude.{ℕ, length, Option}
use Rattle.fields.specs.Answer.{Answer}
use Rattle.fields.specs.Told.{told_step}
use Rattle.fields.specs.declared.Counted.{Counted}
use Rattle.items.specs.Items.{Left}
use Rattle.items.specs.declared.walk.Item.{Item}
use Rattle.items.specs.declared.walk.State.{State}
use Rattle.items.specs.declared.walk.Walked.{Walked}

-- an answer with the state left and the count
pub record Reported : Type 0 where
  pub answer : Answer Item
  pub left : State
  pub reads : ℕ

abbrev pub reported : Answer Item → State → ℕ → Reported
reported a w k = record { answer = a; left = w; reads = k }

-- the result of a call that leaves its state in place, with the state
abbrev pub walked : Counted (Option Item) → State → Walked
walked r w = record { answer = r.answer; left = w; reads = r.reads }

abbrev pub told_next : Walked → Reported
told_next r = reported (told_step r.answer) r.left r.reads

-- the count is how many were read
unfoldable pub report_of : Left → Reported
report_of l = reported l.answer l.left (length l.reads)
