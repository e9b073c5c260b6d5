-- RULES 17. List a record of m bytes with the parts of each item, asked for once, over the same record and table
-- throughout, from fresh to the end or the first refusal of the walk. With a = m / 16 and e = m / 26, rounded down, at
-- most a + 3e + 2ea attributes and list entries are read (5,173 at 1,024 bytes); the count reported is the
-- definition's own; the attributes that the walk itself reads in the base record, lookups aside, follow one another
-- without overlap inside it; and no list entry, told by its list and its place there, gives a part to two items.
use Rattle.std.specs.Prelude.{◌≡◌, ℕ, suc, ◌+◌, ◌*◌, ◌/◌, ◌≤◌, ◌⊎◌, List, [], ◌∷◌, ◌++◌, map, length, false}
use Rattle.std.specs.Prelude.{Option, Some}
use Rattle.std.specs.List.{AllByRecursion, Contains}
use Rattle.fields.specs.Answer.{Answer, gives, ends, refuses, refusal, Outcome}
use Rattle.fields.specs.Known.{known_type}
use Rattle.fields.specs.declared.RecordNumber.{RecordNumber}
use Rattle.fields.specs.declared.Refusal.{Refusal}
use Rattle.fields.specs.declared.Cause.TheVariants.{UnknownType, NoAttribute, NoRoom}
use Rattle.list.specs.declared.Entry.{Entry}
use Rattle.table.specs.Held.{record_of}
use Rattle.record.specs.Header.{first_attribute}
use Rattle.record.specs.Walk.{step_at}
use Rattle.record.specs.declared.layout.Attribute.{Attribute}
use Rattle.items.specs.Told.{Lent, file_of_bytes}
use Rattle.items.specs.Read.{Read, own, entry, sought, joined, Spot, spot}
use Rattle.items.specs.State.{fresh_of, list_at}
use Rattle.items.specs.Items.{Left, sought_of, next_of}
use Rattle.items.specs.Walked.{report_of}
use Rattle.items.specs.declared.File.{File}
use Rattle.items.specs.declared.walk.Rest.{Rest}
use Rattle.items.specs.declared.walk.Item.{Item}
use Rattle.items.specs.declared.walk.State.{State}
use Rattle.parts.specs.declared.Part.{Part}
use Rattle.parts.specs.Part.{part_of}
use Rattle.parts.specs.Parts.{Given, Parts, parts_in, parts_of}
use Rattle.bound.specs.Replay.{start, past, Fronts, Replay, onward, Keeps}

-- a + 3e + 2ea, for m bytes
abbrev pub most : ℕ → ℕ
most m = m / 16 + 3 * (m / 26) + 2 * (m / 26 * (m / 16))

-- the attributes that the walk itself read in the base record, lookups aside
abbrev pub own_of : List Read → List Attribute
own_of [] = []
own_of (own h ∷ l) = h ∷ own_of l
own_of (entry x e ∷ l) = own_of l
own_of (sought f h ∷ l) = own_of l
own_of (joined p e ∷ l) = own_of l

-- a list of an item, in the state w that its call left: the call read the list's first entry, in the walk's open list,
-- which goes on behind it
pub record Begun (read : List Read) (w : State) (l : Rest) : Type 0 where
  pub by : Entry
  pub seen : Contains read (entry (spot w.raw l.from) by)
  pub left : w.list ≡ Some (list_at (l.from + by.length) l.to)

-- what the search by an entry at a place reads
abbrev pub searched : List ℕ → RecordNumber → (RecordNumber → Option (List ℕ)) → Entry → ℕ → List Read
searched s n look e place = map (sought e.file) (sought_of s n look e place).read

-- a call's last reads are an entry and the whole search by it, which answered so
pub record BySearch (s : List ℕ) (n : RecordNumber) (look : RecordNumber → Option (List ℕ)) (reads : List Read)
    (a : Outcome Attribute) : Type 0 where
  pub by : Entry
  pub at : Spot
  pub before : List Read
  pub all : reads ≡ before ++ entry at by ∷ searched s n look by at.place
  pub answers : (sought_of s n look by at.place).answer ≡ a

-- a refusal that no search gave is told of the base record, and is not 18
pub record OfBase (n : RecordNumber) (r : Refusal) : Type 0 where
  pub file : r.file ≡ n
  pub listed : r.cause ≡ NoAttribute → ⊥

-- a part of a list that ends at `to`, for which `reads` were read: an entry among these stands at its place and leads
-- to it, and so is the attribute that was found by it
pub record Leads (s : List ℕ) (n : RecordNumber) (look : RecordNumber → Option (List ℕ)) (to : ℕ) (reads : List Read)
    (g : Given) : Type 0 where
  pub by : Entry
  pub stands : Fronts s n look (list_at g.place to) by
  pub seen : Contains reads (joined g.place by)
  pub leads : part_of s n look by g.place ≡ gives g.part
  pub attribute : Attribute
  pub found : (sought_of s n look by g.place).answer ≡ gives attribute
  pub read : Contains reads (sought by.file attribute)

-- how far the reads went on in a list that parts are asked for by
abbrev pub parts_left : Rest → List Read → Rest
parts_left l [] = l
parts_left l (joined p e ∷ rs) = parts_left (past l e) rs
parts_left l (own h ∷ rs) = parts_left l rs
parts_left l (entry x e ∷ rs) = parts_left l rs
parts_left l (sought f h ∷ rs) = parts_left l rs

-- an entry that ends the parts, or is itself refused: by 20, or by 6 where its type is unknown
abbrev pub AtEntry : RecordNumber → ℕ → Entry → Outcome Unit → Type 0
AtEntry n place e (gives u) = Unit {0}
AtEntry n place e (refuses r) =
    (r ≡ refusal NoRoom n place) ⊎ ((known_type e.ty ≡ false) × (r ≡ refusal UnknownType n place))

-- why a parts call read no further: no more entry is given; or the last was such an entry; or it was one whose part is
-- not given, with the whole search for it
pub data Stopped (s : List ℕ) (n : RecordNumber) (look : RecordNumber → Option (List ℕ)) (l : Rest)
    (reads : List Read) (a : Outcome Unit) : Type 0 where
  by_list : ((e : Entry) → Fronts s n look (parts_left l reads) e → ⊥) → Stopped s n look l reads a
  by_entry : (before : List Read) (place : ℕ) (e : Entry) → reads ≡ before ++ joined place e ∷ []
      → AtEntry n place e a → Stopped s n look l reads a
  by_part : (before : List Read) (place : ℕ) (e : Entry)
      → reads ≡ before ++ joined place e ∷ searched s n look e place
      → ((p : Part) → part_of s n look e place ≡ gives p → ⊥) → Stopped s n look l reads a

-- one record, its number and one lookup; room k is how many parts are lent for item k, each its own
module _ (s : List ℕ) (n : RecordNumber) (look : RecordNumber → Option (List ℕ)) (room : ℕ → ℕ) where
  -- where the answer of a call comes from: an item is one of the walk's own attributes that it read, or what a search
  -- found; a refusal is the walk's, or a search's
  abbrev pub From : List Read → Answer Item → Type 0
  From reads (gives i) =
      Contains reads (own i.attribute) ⊎ ((x : BySearch s n look reads (gives i.attribute)) × (x.by.file ≡ i.file))
  From reads ends = Unit {0}
  From reads (refuses r) = OfBase n r ⊎ BySearch s n look reads (refuses r)

  -- a call of `next`
  abbrev pub called : State → Left
  called w = next_of s n look w

  -- the count that it reports
  abbrev pub reported : State → ℕ
  reported w = (report_of (called w)).reads

  -- the parts call for item k
  abbrev pub asked : ℕ → Item → Parts
  asked k i = parts_of s n look (room k) i.rest

  -- from fresh on, `next` gave k items, and each one's parts were asked for once. The calls reported c reads in all,
  -- they read what `read` says, in order, and the walk stands at w
  pub data Listed : ℕ → ℕ → List Read → State → Type 0 where
    fresh : Listed 0 0 [] (fresh_of s)
    item : (k c : ℕ) (read : List Read) (w : State) (i : Item) → Listed k c read w → (called w).answer ≡ gives i
        → Listed (suc k) (c + reported w + length (asked k i).reads) (read ++ (called w).reads ++ (asked k i).reads)
        (called w).left

  -- attributes that follow one another inside the record, from a place on: each begins where the one before ended, and
  -- the last ends at `end`
  abbrev pub Follow : ℕ → List Attribute → ℕ → Type 0
  Follow at [] end = at ≡ end
  Follow at (h ∷ l) end =
      (step_at s n at ≡ gives h) × (16 ≤ h.length) × (at + h.length ≤ length s) × Follow (at + h.length) l end

  -- what holds after each item, of all that was read up to there and by the call of `next` behind it, whether that
  -- gives an item, ends or refuses
  pub record ReadSo (c : ℕ) (read : List Read) (w : State) : Type 0 where
    pub bound : c + reported w ≤ most (length s)
    pub count : c + reported w ≡ length (read ++ (called w).reads)
    -- one element for each read, and each list read to its end before the walk's next own attribute
    pub once : Replay s n look (start s) (read ++ (called w).reads)
    -- none is left out: the walk stands where its next reads do
    pub stands : Keeps s n look (onward s n look (start s) (read ++ (called w).reads)) (called w).left
    -- from the first attribute to where the walk stands
    pub follow : Follow (first_attribute s) (own_of (read ++ (called w).reads)) (called w).left.raw

  -- item k has a part by the entry x: a listing came to the call that gave the item and left the walk in the entry's
  -- list, and the entry's place is that of a part
  pub record PartBy (k : ℕ) (x : Spot) : Type 0 where
    pub count : ℕ
    pub read : List Read
    pub from : State
    pub listed : Listed k count read from
    pub item_of : Item
    pub given : (called from).answer ≡ gives item_of
    pub list : x.list ≡ (called from).left.raw
    pub place : Contains (map (λ (g : Given). g.place) (asked k item_of).given) x.place

  -- a part of item k, whose call found the walk at w: by an entry of the item's list, among what the parts call read
  pub record Gave (k : ℕ) (w : State) (i : Item) (g : Given) : Type 0 where
    pub list : Rest
    pub of : i.rest ≡ Some list
    pub begun : Begun (called w).reads (called w).left list
    pub by_entry : Leads s n look list.to (asked k i).reads g
    pub part_by : PartBy k (spot (called w).left.raw g.place)

  -- a listing that came to the end or the first refusal of the walk
  pub record Whole : Type 0 where
    pub items : ℕ
    pub count : ℕ
    pub read : List Read
    pub last : State
    pub listed : Listed items count read last
    pub stops : (i : Item) → (called last).answer ≡ gives i → ⊥

  -- what holds of every listing and of every call behind it
  pub record Demanded : Type 0 where
    pub reads : (k c : ℕ) (read : List Read) (w : State) → Listed k c read w → ReadSo c read w
    pub answers : (k c : ℕ) (read : List Read) (w : State) → Listed k c read w → From (called w).reads (called w).answer
    pub gave : (k c : ℕ) (read : List Read) (w : State) (i : Item) → Listed k c read w
        → (called w).answer ≡ gives i → AllByRecursion (Gave k w i) (asked k i).given
    pub apart : (i j : ℕ) (x : Spot) → PartBy i x → PartBy j x → i ≡ j
    pub whole : Whole

-- no record that is looked up is longer than the base record
abbrev pub Sized : List ℕ → (RecordNumber → Option (List ℕ)) → Type 0
Sized s look = (w : RecordNumber) (b : List ℕ) → look w ≡ Some b → length b ≤ length s

-- for every record, number and room, and every lookup of records no longer than the record
abbrev pub EveryLookup : Type 0
EveryLookup =
    (s : List ℕ) (n : RecordNumber) (look : RecordNumber → Option (List ℕ)) (room : ℕ → ℕ) → Sized s look
    → Demanded s n look room

-- so for every record and table that pass the opening checks
abbrev pub EveryTable : Type 0
EveryTable =
    (t s : List ℕ) (n : RecordNumber) (x : Lent) (room : ℕ → ℕ) → file_of_bytes t s n ≡ gives x
    → Demanded s n (record_of t) room

-- and for every file that calls are made of
abbrev pub EveryFile : Type 0
EveryFile =
    (f : File) (room : ℕ → ℕ) → Demanded f.base.bytes.now f.base.number (record_of f.table.bytes.now) room

-- the parts of any list, an item's or not, come by its entries, one for each; and it was read until they stopped
pub record PartsOf (s : List ℕ) (n : RecordNumber) (look : RecordNumber → Option (List ℕ)) (l : Rest) (p : Parts)
    : Type 0 where
  pub by_entries : AllByRecursion (Leads s n look l.to p.reads) p.given
  pub stopped : Stopped s n look l p.reads p.answer

abbrev pub EveryPart : Type 0
EveryPart =
    (s : List ℕ) (n : RecordNumber) (look : RecordNumber → Option (List ℕ)) (room : ℕ) (l : Rest)
    → PartsOf s n look l (parts_in s n look room (Some l))

-- a record of 1,024 bytes
abbrev pub Every1024 : Type 0
Every1024 =
    (s : List ℕ) (n : RecordNumber) (look : RecordNumber → Option (List ℕ)) (room : ℕ → ℕ) → Sized s look
    → length s ≡ 1024 → (k c : ℕ) (read : List Read) (w : State) → Listed s n look room k c read w
    → c + reported s n look room w ≤ 5173
