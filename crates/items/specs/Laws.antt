-- What holds of this chapter whatever the bytes; src/laws.rt has the functions whose contracts these are.
use Rattle.std.specs.Prelude.{ℕ, ◌+◌, ◌-◌, ◌*◌, ◌<◌, ◌≤◌, ◌≡◌, ◌⊎◌, true, eqb, Option, Some}
use Rattle.std.specs.Prelude.{List, [], ◌∷◌, length, take}
use Rattle.std.specs.Prelude.{None, Result, IfOk, IfSome}
use Rattle.fields.specs.Pick.{pick}
use Rattle.fields.specs.Answer.{Outcome, gives, ends, refuses, refusal}
use Rattle.fields.specs.Known.{known_type, attribute_list}
use Rattle.fields.specs.declared.Cause.TheVariants.{UnknownType}
use Rattle.fields.specs.Told.{told_as, told_step}
use Rattle.fields.specs.Trail.{run}
use Rattle.fields.specs.declared.RecordNumber.{RecordNumber}
use Rattle.fields.specs.declared.Refusal.{Refusal}
use Rattle.fields.specs.declared.Counted.{Counted}
use Rattle.list.specs.Entry.{entry_of}
use Rattle.list.specs.declared.Entry.{Entry}
use Rattle.record.specs.Open.{Lent, lent, open_of}
use Rattle.record.specs.Walk.{step_at, attributes_of}
use Rattle.record.specs.Value.{list_in}
use Rattle.record.specs.declared.layout.Span.{Span}
use Rattle.record.specs.Told.{shown_record}
use Rattle.record.specs.Laws.{Alike, SameRecord}
use Rattle.record.specs.Search.{count_of}
use Rattle.record.specs.declared.layout.Attribute.{Attribute}
use Rattle.record.specs.declared.values.Located.{Located}
use Rattle.items.specs.Told.{shown_base, told_found}
use Rattle.items.specs.Lookup.{lookup_of}
use Rattle.items.specs.State.{list_at, state, rest_of, weight}
use Rattle.items.specs.Key.{name_in, key_of, continues, passed_over}
use Rattle.items.specs.Lies.{Lies}
use Rattle.items.specs.Items.{leaves, item, entries_of, sought_of, next_of}
use Rattle.items.specs.Walked.{told_next, report_of}
use Rattle.items.specs.Calls.{calls, calls_from, answered, items_from, items_of}
use Rattle.items.specs.OfFile.{of_file}
use Rattle.items.specs.declared.File.{File}
use Rattle.items.specs.declared.walk.Rest.{Rest}
use Rattle.items.specs.declared.key.Key.{Key}
use Rattle.items.specs.declared.walk.State.{State}
use Rattle.items.specs.declared.walk.Item.{Item}
use Rattle.items.specs.declared.walk.Walked.{Walked}

-- files with the same base record, and the same table
abbrev pub SameFile : File → File → Type 0
SameFile x y =
    SameRecord x.base y.base × (x.table.bytes.now ≡ y.table.bytes.now) × (x.table.header ≡ y.table.header)

-- what opening a file over a table's bytes promises, both clauses of it
pub record Opens (a : Outcome Lent) (t : List ℕ) (r : Result File Refusal) : Type 0 where
  pub answer : told_as shown_base r ≡ a
  pub table : IfOk r (λ f. f.table.bytes.now ≡ t)

-- RULES 2: two openings of one answer are alike
abbrev pub OpeningsSettle : Type 0
OpeningsSettle = (a : Outcome Lent) (t : List ℕ) (r q : Result File Refusal) → Opens a t r → Opens a t q
    → Alike SameFile r q

-- attributes that were found, with their records
abbrev pub SameFound : Located → Located → Type 0
SameFound x y = SameRecord x.within y.within × (x.attribute ≡ y.attribute)

-- what a search by an entry promises, both clauses of it
pub record Sought (f : File) (e : Entry) (place : ℕ) (c : Counted Located) : Type 0 where
  pub answer : told_found c ≡ count_of (of_file sought_of f e place)
  pub within : IfOk c.answer (λ l. of_file lookup_of f e.file place ≡ gives (shown_record l.within))

-- RULES 2, 17: two searches by one entry are alike, and count the same
abbrev pub SoughtSettle : Type 0
SoughtSettle = (f : File) (e : Entry) (place : ℕ) (c d : Counted Located) → Sought f e place c → Sought f e place d
    → Alike SameFound c.answer d.answer × (c.reads ≡ d.reads)

-- RULES 14.9: what it takes to continue the stream of an entry with a name: the same type, the same name, and a lowest
-- VCN of its own that is not 0
pub record Continues (e : Entry) (name : List ℕ) (f : Entry) (own : List ℕ) : Type 0 where
  pub ty : f.ty ≡ e.ty
  pub same : own ≡ name
  pub behind : 0 < f.lowest.0

-- and where these hold, and only there, an entry continues the stream of the key that the other left
abbrev pub KeysTell : Type 0
KeysTell = (e : Entry) (name : List ℕ) (f : Entry) (own : List ℕ) → length name ≡ 2 * e.name_units
    → (continues (key_of e name) f own ≡ true → Continues e name f own) × (Continues e name f own
    → continues (key_of e name) f own ≡ true)

-- what stands in a key behind its name tells nothing
abbrev pub TailsTellNothing : Type 0
TailsTellNothing = (j k : Key) (f : Entry) (own : List ℕ) → j.ty ≡ k.ty → j.units ≡ k.units
    → take (2 * j.units) j.name ≡ take (2 * k.units) k.name → continues j f own ≡ continues k f own

module _ (s : List ℕ) (n : RecordNumber) (look : RecordNumber → Option (List ℕ)) where
  -- results of calls of next, one behind the other: each from the state that the one before left
  abbrev pub Called : State → List Walked → Type 0
  Called w [] = Unit {0}
  Called w (r ∷ rs) = (told_next r ≡ report_of (next_of s n look w)) × Called r.left rs

  -- what they give, and then what the walk gives from where they left it
  unfoldable pub given_by : State → List Walked → List (Outcome Item)
  given_by w [] = items_from s n look w
  given_by w (r ∷ rs) = answered (told_step r.answer) (given_by r.left rs)

-- RULES 14: calls of next give the items of the walk, in order: however many there were, from wherever it stood
abbrev pub CallsGiveItems : Type 0
CallsGiveItems = (s : List ℕ) (n : RecordNumber) (look : RecordNumber → Option (List ℕ)) (w : State)
    (rs : List Walked)
    → Called s n look w rs → given_by s n look w rs ≡ items_from s n look w

-- a list that is left is the rest of the list that there was
abbrev pub Rests : Option Rest → Option Rest → Type 0
Rests o None = Unit {0}
Rests None (Some l) = ⊥
Rests (Some k) (Some l) = (k.from ≤ l.from) × (l.to ≡ k.to)

-- a walk of a record of m bytes stood at w, and now stands at v: no raw attribute is given again, and of the open
-- list no entry; and its list lies inside the record
pub record Further (m : ℕ) (w v : State) : Type 0 where
  pub raw : w.raw ≤ v.raw
  pub list : v.raw ≡ w.raw → Rests w.list v.list
  pub lies : IfSome w.list (Lies m) → IfSome v.list (Lies m)

-- RULES 13, 14: what a call passed over stays passed over, also where it refused
abbrev pub CallsGoOn : Type 0
CallsGoOn = (s : List ℕ) (n : RecordNumber) (look : RecordNumber → Option (List ℕ)) (w : State)
    → Further (length s) w (next_of s n look w).left

-- the end stays the end: another call ends again, leaves the state, and reads nothing
abbrev pub EndsStay : Type 0
EndsStay = (s : List ℕ) (n : RecordNumber) (look : RecordNumber → Option (List ℕ)) (w : State)
    → (next_of s n look w).answer ≡ ends → next_of s n look (next_of s n look w).left ≡ leaves ends
    (next_of s n look w).left

-- RULES 14: a walk ends. An item lowers what is left to read; as many calls as that and one more are all of it,
-- further ones change nothing
abbrev pub ItemsLower : Type 0
ItemsLower = (s : List ℕ) (n : RecordNumber) (look : RecordNumber → Option (List ℕ)) (w : State) (i : Item)
    → (next_of s n look w).answer ≡ gives i → weight (length s) (next_of s n look w).left < weight (length s) w

abbrev pub CallsEnd : Type 0
CallsEnd = (s : List ℕ) (n : RecordNumber) (look : RecordNumber → Option (List ℕ)) (w : State) (f : ℕ)
    → weight (length s) w < f → calls s n look f w ≡ calls_from s n look w

-- RULES 9: so do the entries of a list
abbrev pub EntriesEnd : Type 0
EntriesEnd = (s : List ℕ) (n : RecordNumber) (from to f : ℕ) → to - from < f
    → run (λ at. entry_of (rest_of s (list_at at to)) n at) (λ e. e.length) f from ≡ entries_of s n to from

-- RULES 14: the items of a file told at once, with no calls and no states: those of its raw attributes, one behind the
-- other, with each list replaced by what its entries give. The skip key goes along, out of one list and into the next;
-- a refusal is the last.
module _ (s : List ℕ) (n : RecordNumber) (look : RecordNumber → Option (List ℕ)) where
  -- an attribute that an entry led to, and what follows with the key that it leaves: a non-resident one tells the list
  -- from its entry on
  unfoldable pub found_gives : Entry → Rest → (Option Key → List (Outcome Item)) → Outcome Attribute
      → List (Outcome Item)
  found_gives e l on (refuses r) = refuses r ∷ []
  found_gives e l on (gives h) =
      pick h.resident (gives (item e.file h None) ∷ on None)
      (gives (item e.file h (Some l)) ∷ on (Some (key_of e (name_in s l e))))

  -- the entries of a list that ends at `to`, from a place on, and what follows behind it
  unfoldable pub entries_give : (Option Key → List (Outcome Item)) → ℕ → List (Outcome Entry) → ℕ → Option Key
      → List (Outcome Item)
  entries_give on to [] from key = on key
  entries_give on to (refuses r ∷ es) from key = refuses r ∷ []
  entries_give on to (gives e ∷ es) from key =
      pick (known_type e.ty)
      (pick (passed_over n key e (name_in s (list_at from to) e))
      (entries_give on to es (from + e.length) key)
      (found_gives e (list_at from to) (entries_give on to es (from + e.length)) (sought_of s n look e from).answer))
      (refuses (refusal UnknownType n from) ∷ [])

  unfoldable pub list_gives : (Option Key → List (Outcome Item)) → Outcome Span → Option Key → List (Outcome Item)
  list_gives on (refuses r) key = refuses r ∷ []
  list_gives on (gives p) key =
      entries_give on (p.from + p.bytes) (entries_of s n (p.from + p.bytes) p.from) p.from key

  unfoldable pub attributes_give : List (Outcome Attribute) → Option Key → List (Outcome Item)
  attributes_give [] key = []
  attributes_give (refuses r ∷ hs) key = refuses r ∷ []
  attributes_give (gives h ∷ hs) key =
      pick (eqb h.ty attribute_list) (list_gives (attributes_give hs) (list_in s n h) key)
      (gives (item n h None) ∷ attributes_give hs key)

abbrev pub ItemsOfAttributes : Type 0
ItemsOfAttributes = (s : List ℕ) (n : RecordNumber) (look : RecordNumber → Option (List ℕ))
    → items_of s n look ≡ attributes_give s n look (attributes_of s n) None

-- RULES 14.7: the skip key outlives the list. A call at a list's end is the call without a list, with that key
abbrev pub KeysOutliveLists : Type 0
KeysOutliveLists = (s : List ℕ) (n : RecordNumber) (look : RecordNumber → Option (List ℕ)) (raw : ℕ) (l : Rest)
    (key : Option Key) → Lies (length s) l → entry_of (rest_of s l) n l.from ≡ ends
    → next_of s n look (state raw (Some l) key) ≡ next_of s n look (state raw None key)

module _ (s : List ℕ) (n : RecordNumber) (look : RecordNumber → Option (List ℕ)) (i : Item) where
  -- an item of the raw walk
  pub record OwnItem : Type 0 where
    pub file : i.file ≡ n
    pub stands : step_at s n i.attribute.offset ≡ gives i.attribute
    pub rest : i.rest ≡ None

  -- an item found by an entry; it tells the list from its entry on, if it is non-resident
  pub record EntryItem : Type 0 where
    pub by : Entry
    pub list : Rest
    pub stands : entry_of (rest_of s list) n list.from ≡ gives by
    pub known : known_type by.ty ≡ true
    pub file : i.file ≡ by.file
    pub found : (sought_of s n look by list.from).answer ≡ gives i.attribute
    pub rest : i.rest ≡ pick i.attribute.resident None (Some list)

  -- the record of an item found again: a lookup of its number gives it, whatever place is blamed, and the item's
  -- attribute stands there at its offset
  pub record FoundAgain (place : ℕ) : Type 0 where
    pub within : Lent
    pub opened : lookup_of s n look i.file place ≡ gives within
    pub stands : step_at within.bytes within.number i.attribute.offset ≡ gives i.attribute

-- RULES 14: an item comes by a raw attribute or by an entry
abbrev pub ItemsCome : Type 0
ItemsCome = (s : List ℕ) (n : RecordNumber) (look : RecordNumber → Option (List ℕ)) (w : State) (i : Item)
    → (next_of s n look w).answer ≡ gives i → OwnItem s n look i ⊎ EntryItem s n look i

-- RULES 11, 14: and so its record is found again, in a file that was opened
abbrev pub ItemsAreFoundAgain : Type 0
ItemsAreFoundAgain = (s : List ℕ) (n : RecordNumber) (look : RecordNumber → Option (List ℕ)) (w : State) (i : Item)
    (place : ℕ) → open_of s n ≡ gives (lent s n) → (next_of s n look w).answer ≡ gives i
    → FoundAgain s n look i place
