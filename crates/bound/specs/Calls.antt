-- RULES 17: the theorem, of the calls that a caller makes. Of each call he holds the result, and what he knows of it is
-- its contract.
use Rattle.std.specs.Prelude.{◌≡◌, ℕ, suc, ◌+◌, ◌≤◌, ◌⊎◌, min, List, ◌++◌, map, length, take, Option, Some}
use Rattle.std.specs.Prelude.{Result, Ok, Err}
use Rattle.std.specs.List.{AllByRecursion, Contains}
use Rattle.fields.specs.declared.RecordNumber.{RecordNumber}
use Rattle.fields.specs.declared.Refusal.{Refusal}
use Rattle.fields.specs.declared.Cause.TheVariants.{RecordLength, NotFile, BadTable, UsedSize}
use Rattle.table.specs.Held.{record_of}
use Rattle.table.specs.Laws.{Checks}
use Rattle.table.specs.declared.Table.{Table}
use Rattle.record.specs.Header.{first_attribute}
use Rattle.record.specs.Open.{open_in}
use Rattle.items.specs.Told.{file_of_bytes}
use Rattle.items.specs.Laws.{Opens as OpensBy}
use Rattle.items.specs.Read.{Read, Spot}
use Rattle.items.specs.State.{fresh_of}
use Rattle.items.specs.Walked.{told_next, report_of}
use Rattle.items.specs.Items.{next_of}
use Rattle.items.specs.OfFile.{of_file}
use Rattle.items.specs.Bounds.{size_of}
use Rattle.items.specs.declared.File.{File}
use Rattle.items.specs.declared.walk.Rest.{Rest}
use Rattle.items.specs.declared.walk.Item.{Item}
use Rattle.items.specs.declared.walk.State.{State}
use Rattle.items.specs.declared.walk.Walked.{Walked}
use Rattle.parts.specs.Parts.{parts_of}
use Rattle.parts.specs.Filled.{filled, collected, told_parts, blank_parts, most_parts}
use Rattle.parts.specs.declared.Part.{Part}
use Rattle.parts.specs.declared.Filled.{Filled}
use Rattle.parts.specs.declared.Collected.{Collected}
use Rattle.bound.specs.Replay.{start, Replay, onward, Keeps}
use Rattle.bound.specs.Listing.{most, own_of, called, reported, asked, Listed, Follow, Gave, Whole}

module _ (s : List ℕ) (n : RecordNumber) (look : RecordNumber → Option (List ℕ)) (room : ℕ → ℕ) where
  -- c is what the calls of a whole listing report in all, refusing calls included, and how much they read: of each,
  -- for there is but one count
  pub record Counted (c : ℕ) (w : Whole s n look room) : Type 0 where
    pub report : w.count + reported s n look room w.last ≡ c
    pub read : length (w.read ++ (called s n look room w.last).reads) ≡ c

  abbrev pub Counts : ℕ → Type 0
  Counts c = (w : Whole s n look room) → Counted c w

-- of a file that calls are made of
abbrev pub CountsIn : File → (ℕ → ℕ) → ℕ → Type 0
CountsIn f room c = Counts f.base.bytes.now f.base.number (record_of f.table.bytes.now) room c

-- how the parts of an item were asked for: by `fill`, with the lent list before and behind the call, or by `collect`,
-- with the room that it was given
pub data Ask : Type 0 where
  lent : List Part → List Part → Filled → Ask
  by_value : ℕ → Collected → Ask

-- what the contract of the one or the other says
abbrev pub Answers : File → Option Rest → Ask → Type 0
Answers f o (lent before after r) = filled after r ≡ told_parts before (of_file parts_of f (length before) o)
Answers f o (by_value k r) = collected r ≡ told_parts blank_parts (of_file parts_of f (min k most_parts) o)

-- how many parts there was room for
abbrev pub room_of : Ask → ℕ
room_of (lent before after r) = length before
room_of (by_value k r) = min k most_parts

-- the count that it reports
abbrev pub told_reads : Ask → ℕ
told_reads (lent before after r) = r.reads
told_reads (by_value k r) = r.filled.reads

-- the parts that the caller has from it
abbrev pub parts_had : Ask → List Part
parts_had (lent before after r) = take r.count after
parts_had (by_value k r) = take r.filled.count r.parts

-- a call of `next` from w answered so
abbrev pub Next : File → State → Walked → Type 0
Next f w r = told_next r ≡ report_of (of_file next_of f w)

-- the end or a refusal
abbrev pub Stops : Walked → Type 0
Stops r = (i : Item) → r.answer ≡ Ok (Some i) → ⊥

-- room k is how many parts there is room for at item k
module _ (f : File) (room : ℕ → ℕ) where
  abbrev pub bytes : List ℕ
  bytes = f.base.bytes.now

  abbrev pub number : RecordNumber
  number = f.base.number

  abbrev pub held : RecordNumber → Option (List ℕ)
  held = record_of f.table.bytes.now

  -- the parts of item k were asked for so
  pub record Asked (k : ℕ) (i : Item) (a : Ask) : Type 0 where
    pub answers : Answers f i.rest a
    pub lends : room_of a ≡ room k

  -- from fresh on, each call of `next` from where the one before left the walk, k calls gave items; the parts of each
  -- item were asked for once, by the one call or the other; the `reads` of all results add up to c, and the walk stands
  -- at w
  pub data Run : ℕ → ℕ → State → Type 0 where
    fresh : Run 0 0 (fresh_of bytes)
    item : (k c : ℕ) (w : State) (r : Walked) (i : Item) (a : Ask) → Run k c w → Next f w r
        → r.answer ≡ Ok (Some i) → Asked k i a → Run (suc k) (c + r.reads + told_reads a) r.left

  -- a run is a listing, so that all that is said of listings is said of it
  pub record Lists (k c : ℕ) (w : State) : Type 0 where
    pub read : List Read
    pub listed : Listed bytes number held room k c read w

  -- what was read by a run and the call of `next` behind it, which answered r, where all results together report c
  pub record ReadBy (c : ℕ) (r : Walked) : Type 0 where
    pub bound : c ≤ most (size_of f)
    pub read : List Read
    pub count : c ≡ length read
    pub once : Replay bytes number held (start bytes) read
    pub stands : Keeps bytes number held
        (onward bytes number held (start bytes) read) r.left
    pub follow : Follow bytes number held room
        (first_attribute bytes) (own_of read) r.left.raw

  -- the parts that the caller has of item k, which a call of `next` from w gave: each by an entry of the item's list
  pub record Had (k : ℕ) (w : State) (i : Item) (a : Ask) : Type 0 where
    pub given : parts_had a ≡ map (λ g. g.part)
        (asked bytes number held room k i).given
    pub by_entries : AllByRecursion (Gave bytes number held room k w i)
        (asked bytes number held room k i).given

  -- item k has a part by the entry x: a run came to the call that gave the item and left the walk in the entry's list,
  -- the parts were asked for, and the entry's place is that of a part
  pub record CameBy (k : ℕ) (x : Spot) : Type 0 where
    pub count : ℕ
    pub from : State
    pub run : Run k count from
    pub walked_to : Walked
    pub next : Next f from walked_to
    pub item_of : Item
    pub gave : walked_to.answer ≡ Ok (Some item_of)
    pub ask : Ask
    pub asked_for : Asked k item_of ask
    pub list : x.list ≡ walked_to.left.raw
    pub place : Contains (map (λ g. g.place) (asked bytes number held room k item_of).given) x.place

  -- of every run and the call behind it
  pub record Demanded : Type 0 where
    pub lists : (k c : ℕ) (w : State) → Run k c w → Lists k c w
    pub reads : (k c : ℕ) (w : State) (r : Walked) → Run k c w → Next f w r → ReadBy (c + r.reads) r
    pub parts : (k c : ℕ) (w : State) (r : Walked) (i : Item) (a : Ask) → Run k c w → Next f w r
        → r.answer ≡ Ok (Some i) → Asked k i a → Had k w i a
    pub apart : (i j : ℕ) (x : Spot) → CameBy i x → CameBy j x → i ≡ j
    pub counts : (k c : ℕ) (w : State) (r : Walked) → Run k c w → Next f w r → Stops r → CountsIn f room (c + r.reads)

  -- a run to the end or the first refusal, and what all its results report
  pub data Finished : ℕ → Type 0 where
    finished : (k c : ℕ) (w : State) (r : Walked) → Run k c w → Next f w r → Stops r → Finished (c + r.reads)

abbrev pub EveryRun : Type 0
EveryRun = (f : File) (room : ℕ → ℕ) → Demanded f room

-- room for 157 parts at each item
abbrev pub Ample : (ℕ → ℕ) → Type 0
Ample room = (k : ℕ) → most_parts ≤ room k

-- with so much room, a file has but one count: however the parts of each item were asked for
abbrev pub EveryWay : Type 0
EveryWay = (f : File) (room other : ℕ → ℕ) (c d : ℕ) → Ample room → Ample other → Finished f room c
    → Finished f other d → c ≡ d

-- the ways in, of any bytes: the table is checked and the record opened by one call, or by two
pub data WayIn (t s : List ℕ) (n : RecordNumber) : Result File Refusal → Type 0 where
  at_once : (r : Result File Refusal) → OpensBy (file_of_bytes t s n) t r → WayIn t s n r
  unchecked : (r : Refusal) → Checks t (Err r) → WayIn t s n (Err r)
  checked : (b : Table) (r : Result File Refusal) → Checks t (Ok b) → OpensBy (open_in s n b.header.size) b.bytes.now r
      → WayIn t s n r

-- all calls on these bytes, and what they report: one that does not open a file leaves nothing to call
pub data Calls (t s : List ℕ) (n : RecordNumber) (room : ℕ → ℕ) : ℕ → Type 0 where
  refused : (r : Refusal) → WayIn t s n (Err r) → Calls t s n room 0
  opened : (f : File) (c : ℕ) → WayIn t s n (Ok f) → Finished f room c → Calls t s n room c

-- a way in opens these very bytes, or is refused by 21, 1, 2 or 27
abbrev pub Opens : List ℕ → List ℕ → RecordNumber → Result File Refusal → Type 0
Opens t s n (Ok f) = (f.table.bytes.now ≡ t) × (f.base.bytes.now ≡ s) × (f.base.number ≡ n)
Opens t s n (Err r) =
    (r.cause ≡ BadTable) ⊎ ((r.cause ≡ RecordLength) ⊎ ((r.cause ≡ NotFile) ⊎ (r.cause ≡ UsedSize)))

-- whatever the bytes and the way in, it says the same, and all calls report a + 3e + 2ea at most
pub record AnyBytes (t s : List ℕ) (n : RecordNumber) (room : ℕ → ℕ) : Type 0 where
  pub one : (r : Result File Refusal) → WayIn t s n r → OpensBy (file_of_bytes t s n) t r
  pub opens : (r : Result File Refusal) → WayIn t s n r → Opens t s n r
  pub bound : (c : ℕ) → Calls t s n room c → c ≤ most (length s)

abbrev pub EveryBytes : Type 0
EveryBytes = (t s : List ℕ) (n : RecordNumber) (room : ℕ → ℕ) → AnyBytes t s n room
