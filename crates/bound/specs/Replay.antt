-- RULES 17: what it is to read each thing once. Every read stands where the one before of its kind ended.
use Rattle.std.specs.Prelude.{ℕ, ◌+◌, ◌≡◌, List, [], ◌∷◌, eqb, Option, Some, None, ⊤}
use Rattle.fields.specs.Pick.{pick}
use Rattle.fields.specs.Answer.{gives, ends, refuses, Outcome}
use Rattle.fields.specs.Known.{attribute_list}
use Rattle.fields.specs.declared.RecordNumber.{RecordNumber}
use Rattle.list.specs.Entry.{entry_of}
use Rattle.list.specs.declared.Entry.{Entry}
use Rattle.record.specs.Header.{first_attribute}
use Rattle.record.specs.Walk.{step_at}
use Rattle.record.specs.Open.{Lent}
use Rattle.record.specs.Value.{list_in}
use Rattle.record.specs.declared.layout.Attribute.{Attribute}
use Rattle.record.specs.declared.layout.Span.{Span}
use Rattle.items.specs.Lookup.{lookup_of}
use Rattle.items.specs.State.{list_at, rest_of}
use Rattle.items.specs.Read.{Read, own, entry, sought, joined, spot}
use Rattle.items.specs.declared.walk.Rest.{Rest}
use Rattle.items.specs.declared.walk.State.{State}

-- a search: the record that was looked up, and where its next attribute is read
pub record Search : Type 0 where
  pub within : Lent
  pub at : ℕ

abbrev pub search : Lent → ℕ → Search
search t at = record { within = t; at = at }

-- where the next read of each kind stands: of the walk's own attributes, of its open list, of the search, and of the
-- list that parts go through
pub record Heads : Type 0 where
  pub raw : ℕ
  pub list : Rest
  pub search : Option Search
  pub parts : Rest

abbrev pub heads : ℕ → Rest → Option Search → Rest → Heads
heads raw list x parts = record { raw = raw; list = list; search = x; parts = parts }

abbrev pub no_list : Rest
no_list = list_at 0 0

-- nothing is read yet
abbrev pub start : List ℕ → Heads
start s = heads (first_attribute s) no_list None no_list

-- the list that an attribute opens
abbrev pub opened : Outcome Span → Rest
opened (gives p) = list_at p.from (p.from + p.bytes)
opened (refuses r) = no_list

-- a search begins at the first attribute of the record that was looked up, and goes on by the length
abbrev pub begins : Outcome Lent → Option Search
begins (gives t) = Some (search t (first_attribute t.bytes))
begins (refuses r) = None

abbrev pub goes : Option Search → Attribute → Option Search
goes (Some x) a = Some (search x.within (x.at + a.length))
goes None a = None

-- past an entry
abbrev pub past : Rest → Entry → Rest
past l e = list_at (l.from + e.length) l.to

abbrev pub IsSought : Option Search → RecordNumber → Attribute → Type 0
IsSought (Some x) f a = (f ≡ x.within.number) × (step_at x.within.bytes x.within.number x.at ≡ gives a)
IsSought None f a = ⊥

module _ (s : List ℕ) (n : RecordNumber) (look : RecordNumber → Option (List ℕ)) where
  -- the entry e stands at the front of l
  abbrev pub Fronts : Rest → Entry → Type 0
  Fronts l e = entry_of (rest_of s l) n l.from ≡ gives e

  -- l is read to its end
  abbrev pub Done : Rest → Type 0
  Done l = entry_of (rest_of s l) n l.from ≡ ends

  -- the walk reads an own attribute where no entry is left to read. A list is told by where the last attribute that
  -- the walk itself read ends: that attribute opened it
  abbrev pub Stands : Heads → Read → Type 0
  Stands h (own a) = Done h.list × (step_at s n h.raw ≡ gives a)
  Stands h (entry x e) = (x ≡ spot h.raw h.list.from) × Fronts h.list e
  Stands h (sought f a) = IsSought h.search f a
  Stands h (joined place e) = (place ≡ h.parts.from) × Fronts h.parts e

  -- the list that an attribute opens, if it is one that holds a list
  abbrev pub list_of : Attribute → Rest
  list_of a = pick (eqb a.ty attribute_list) (opened (list_in s n a)) no_list

  -- behind a read: an attribute may open a list; an entry begins a search, and parts begin at an entry of the walk
  abbrev pub behind : Heads → Read → Heads
  behind h (own a) = heads (h.raw + a.length) (list_of a) None no_list
  behind h (entry x e) = heads h.raw (past h.list e) (begins (lookup_of s n look e.file h.list.from)) h.list
  behind h (sought f a) = heads h.raw h.list (goes h.search a) h.parts
  behind h (joined place e) = heads h.raw h.list (begins (lookup_of s n look e.file h.parts.from)) (past h.parts e)

  -- each in its turn
  abbrev pub Replay : Heads → List Read → Type 0
  Replay h [] = ⊤
  Replay h (r ∷ rs) = Stands h r × Replay (behind h r) rs

  -- where the next reads stand behind all of these
  abbrev pub onward : Heads → List Read → Heads
  onward h [] = h
  onward h (r ∷ rs) = onward (behind h r) rs

  -- the open list is where the next entry is read; with none open, no entry is left to read
  abbrev pub Holds : Rest → Option Rest → Type 0
  Holds list (Some l) = list ≡ l
  Holds list None = Done list

  -- a walk stands where its next reads do
  pub record Keeps (h : Heads) (w : State) : Type 0 where
    pub raw : h.raw ≡ w.raw
    pub list : Holds h.list w.list
