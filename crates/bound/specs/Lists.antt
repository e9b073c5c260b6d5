-- RULES 17: why a list is told by where its attribute ends. There the raw walk stands while the list is open, and
-- while it stands there no other is opened.
use Rattle.std.specs.Prelude.{◌≡◌, ℕ, ◌+◌, ◌<◌, ◌≤◌, ◌⊎◌, List, ◌++◌, Option, Some}
use Rattle.std.specs.List.{Contains}
use Rattle.fields.specs.Answer.{gives}
use Rattle.fields.specs.Known.{attribute_list}
use Rattle.fields.specs.declared.RecordNumber.{RecordNumber}
use Rattle.list.specs.declared.Entry.{Entry}
use Rattle.record.specs.Value.{list_in}
use Rattle.record.specs.declared.layout.Attribute.{Attribute}
use Rattle.record.specs.declared.layout.Span.{Span}
use Rattle.items.specs.Read.{Read, entry, Spot}
use Rattle.items.specs.Items.{next_of}
use Rattle.items.specs.declared.walk.Rest.{Rest}
use Rattle.items.specs.declared.walk.State.{State}
use Rattle.bound.specs.Listing.{own_of, called, Listed}
use Rattle.bound.specs.Replay.{Heads, Stands, behind}

-- the list m is what is left of the open list of a state
pub record RestOf (w : State) (m : Rest) : Type 0 where
  pub list : Rest
  pub open_list : w.list ≡ Some list
  pub ends : list.to ≡ m.to
  pub on : list.from ≤ m.from

-- from w to v the raw walk goes on, or stands and an open list is the one that was open
abbrev pub Held : State → State → Type 0
Held w v = (w.raw < v.raw) ⊎ ((w.raw ≡ v.raw) × ((m : Rest) → v.list ≡ Some m → RestOf w m))

-- every call of the walk, from any state
abbrev pub EveryStep : Type 0
EveryStep =
    (s : List ℕ) (n : RecordNumber) (look : RecordNumber → Option (List ℕ)) (w : State)
    → Held w (next_of s n look w).left

-- and every read
abbrev pub EveryRead : Type 0
EveryRead =
    (s : List ℕ) (n : RecordNumber) (look : RecordNumber → Option (List ℕ)) (h : Heads) (r : Read)
    → Stands s n look h r
    → (h.raw < (behind s n look h r).raw) ⊎ ((h.raw ≡ (behind s n look h r).raw) ×
    ((behind s n look h r).list.to ≡ h.list.to))

-- where an attribute ends
abbrev pub end_of : Attribute → ℕ
end_of a = a.offset + a.length

module _ (s : List ℕ) (n : RecordNumber) (look : RecordNumber → Option (List ℕ)) (room : ℕ → ℕ) where
  -- the attribute that opened the list of an entry: the walk itself read it, it ends where the list is told by, and
  -- the entry lies in the list that it holds
  pub record OpenedBy (read : List Read) (x : Spot) (e : Entry) : Type 0 where
    pub by : Attribute
    pub own : Contains (own_of read) by
    pub ends : end_of by ≡ x.list
    pub holds : by.ty ≡ attribute_list
    pub span : Span
    pub opens : list_in s n by ≡ gives span
    pub begin : span.from ≤ x.place
    pub end : x.place + e.length ≤ span.from + span.bytes

  -- of every listing and the call behind it: each entry's list is told so, and no two attributes of the walk's own end
  -- at one place
  pub record ToldApart (read : List Read) : Type 0 where
    pub opened : (x : Spot) (e : Entry) → Contains read (entry x e) → OpenedBy read x e
    pub one : (a b : Attribute) → Contains (own_of read) a → Contains (own_of read) b → end_of a ≡ end_of b → a ≡ b

abbrev pub EveryEntry : Type 0
EveryEntry =
    (s : List ℕ) (n : RecordNumber) (look : RecordNumber → Option (List ℕ)) (room : ℕ → ℕ) (k c : ℕ)
    (read : List Read) (w : State)
    → Listed s n look room k c read w → ToldApart s n look room (read ++ (called s n look room w).reads)
