-- RULES 17: a listing comes to the walk's end or its first refusal, there is but one, and no call goes on behind it.
use Rattle.std.specs.Prelude.{◌≡◌, ℕ, ◌≤◌, List, length, Option}
use Rattle.fields.specs.declared.RecordNumber.{RecordNumber}
use Rattle.items.specs.Read.{Read}
use Rattle.items.specs.State.{fresh_of, weight}
use Rattle.items.specs.declared.walk.State.{State}
use Rattle.bound.specs.Listing.{Listed, Whole}

module _ (s : List ℕ) (n : RecordNumber) (look : RecordNumber → Option (List ℕ)) (room : ℕ → ℕ) where
  -- two listings of as many items are one
  pub record Same (c d : ℕ) (read other : List Read) (w v : State) : Type 0 where
    pub counts : c ≡ d
    pub reads : read ≡ other
    pub states : w ≡ v

  pub record Ends : Type 0 where
    pub whole : Whole s n look room
    -- each item lowers the weight of the walk's state, so that there are no more items
    pub soon : whole.items ≤ weight (length s) (fresh_of s)
    pub same : (k c d : ℕ) (read other : List Read) (w v : State) → Listed s n look room k c read w
        → Listed s n look room k d other v → Same c d read other w v
    -- more calls change nothing: no listing has more items, and each that stops has as many
    pub no_more : (k c : ℕ) (read : List Read) (w : State) → Listed s n look room k c read w → k ≤ whole.items
    pub one : (v : Whole s n look room) → v.items ≡ whole.items

-- for every record, number, lookup and room
abbrev pub EveryEnd : Type 0
EveryEnd =
    (s : List ℕ) (n : RecordNumber) (look : RecordNumber → Option (List ℕ)) (room : ℕ → ℕ) → Ends s n look room
