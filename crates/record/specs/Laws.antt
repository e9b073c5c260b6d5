-- What holds of this chapter whatever the bytes; src/laws.rt has the functions whose contracts these are.
use Rattle.std.specs.Prelude.{ℕ, suc, ◌+◌, ◌-◌, ◌*◌, ◌<◌, ◌≤◌, ◌≡◌, List, [], ◌∷◌, length, take, drop, get_or}
use Rattle.std.specs.Prelude.{Option, None}
use Rattle.std.specs.Prelude.{Result, Ok, Err}
use Rattle.fields.specs.Answer.{Outcome, Answer, gives, ends, refuses}
use Rattle.fields.specs.Told.{told_as, told_step}
use Rattle.fields.specs.Trail.{run}
use Rattle.fields.specs.declared.RecordNumber.{RecordNumber}
use Rattle.fields.specs.declared.Refusal.{Refusal}
use Rattle.record.specs.Header.{first_attribute, used_size}
use Rattle.record.specs.Attribute.{header_size, attribute_at, checked_at}
use Rattle.record.specs.Inside.{Inside}
use Rattle.record.specs.Walk.{step_at, walk_from, attributes_of}
use Rattle.record.specs.View.{Piece}
use Rattle.record.specs.Name.{name_in, name_of}
use Rattle.record.specs.Value.{Contents, resident, runs, value_in, value_of, list_in}
use Rattle.record.specs.Search.{find_in}
use Rattle.record.specs.Reader.{Takes, answer_of}
use Rattle.record.specs.Places.{place_of}
use Rattle.record.specs.Told.{shown_record, piece, shown_value}
use Rattle.record.specs.declared.Record.{Record}
use Rattle.record.specs.declared.layout.Attribute.{Attribute}
use Rattle.record.specs.declared.layout.Span.{Span}
use Rattle.record.specs.declared.reader.Reader.{Reader}
use Rattle.record.specs.declared.values.View.{View}
use Rattle.record.specs.declared.values.Value.{Value}
use Rattle.record.specs.declared.values.Value.TheVariants.{Resident, Runs}

-- two results give values that are the same, or refuse alike
abbrev pub Alike : {A : Type 0} → (A → A → Type 0) → Result A Refusal → Result A Refusal → Type 0
Alike Same (Ok x) (Ok y) = Same x y
Alike Same (Err r) (Err q) = r ≡ q
Alike Same (Ok x) (Err q) = ⊥
Alike Same (Err r) (Ok y) = ⊥

-- RULES 2: two results that tell one answer are alike, so a contract that states the answer leaves no choice
abbrev pub TellsAll : {A B : Type 0} → (A → B) → (A → A → Type 0) → Type 0
TellsAll {A} {B} tells Same = (r q : Result A Refusal) (a : Outcome B) → told_as tells r ≡ a → told_as tells q ≡ a
    → Alike Same r q

-- records with the same bytes and number; some bytes that begin at one place and are the same; and values
abbrev pub SameRecord : Record → Record → Type 0
SameRecord x y = (x.bytes.now ≡ y.bytes.now) × (x.number ≡ y.number)

abbrev pub SameView : View → View → Type 0
SameView x y = (x.from ≡ y.from) × (x.bytes.now ≡ y.bytes.now)

abbrev pub SameValue : Value → Value → Type 0
SameValue (Resident x) (Resident y) = SameView x y
SameValue (Runs x k) (Runs y m) = SameView x y × (k ≡ m)
SameValue (Resident x) (Runs y m) = ⊥
SameValue (Runs x k) (Resident y) = ⊥

abbrev pub RecordsSettle : Type 0
RecordsSettle = TellsAll shown_record SameRecord

abbrev pub ViewsSettle : Type 0
ViewsSettle = TellsAll piece SameView

abbrev pub ValuesSettle : Type 0
ValuesSettle = TellsAll shown_value SameValue

-- two takes of one reader answer the same and leave the same reader
abbrev pub TakesSettle : Type 0
TakesSettle = (q r t : Reader) (x y : Result (Option Attribute) Refusal) → Takes q x r → Takes q y t
    → (x ≡ y) × (r ≡ t)

-- RULES 4: an attribute at a place is what the bytes there say, is at least 16 long, and ends inside the record and
-- its used part
pub record Stands (s : List ℕ) (at : ℕ) (h : Attribute) : Type 0 where
  pub is : h ≡ attribute_at s at
  pub stands : h.offset ≡ at
  pub least : header_size ≤ h.length
  pub most : at + h.length ≤ length s
  pub used : at + h.length ≤ used_size s

abbrev pub CheckedStand : Type 0
CheckedStand = (s : List ℕ) (n : RecordNumber) (at : ℕ) (h : Attribute) → checked_at s n at ≡ gives h → Stands s at h

abbrev pub SteppedStand : Type 0
SteppedStand = (s : List ℕ) (n : RecordNumber) (at : ℕ) (h : Attribute) → step_at s n at ≡ gives h → Stands s at h

-- RULES 5: a walk ends. As many steps as there are bytes left, and one more, are all of it; further ones change
-- nothing
abbrev pub WalksEnd : Type 0
WalksEnd = (s : List ℕ) (n : RecordNumber) (at f : ℕ) → length s - at < f
    → run (step_at s n) (λ h. h.length) f at ≡ walk_from s n at

-- the attributes that a walk gives
unfoldable pub given : List (Outcome Attribute) → List Attribute
given [] = []
given (gives h ∷ xs) = h ∷ given xs
given (refuses r ∷ xs) = []

-- records of one length with the same bytes in the used part, which holds the used size itself
pub record UsedAlike (s t : List ℕ) : Type 0 where
  pub long : length s ≡ length t
  pub reach : 28 ≤ used_size s
  pub bytes : (k : ℕ) → k < used_size s → get_or s k 0 ≡ get_or t k 0

-- RULES 4.5: they have the same attributes, so that nothing behind the used part makes one, or changes or hides one
abbrev pub TailsGiveNothing : Type 0
TailsGiveNothing = (s t : List ℕ) (n : RecordNumber) → UsedAlike s t
    → given (attributes_of s n) ≡ given (attributes_of t n)

-- RULES 6, 7, 8: nor does it change what an attribute of the used part tells
pub record TellAlike (s t : List ℕ) (n : RecordNumber) (h : Attribute) : Type 0 where
  pub name : name_in s n h ≡ name_in t n h
  pub value : value_in s n h ≡ value_in t n h
  pub list : list_in s n h ≡ list_in t n h

abbrev pub TailsChangeNothing : Type 0
TailsChangeNothing = (s t : List ℕ) (n : RecordNumber) (h : Attribute) → UsedAlike s t → Inside s h → TellAlike s t n h

-- RULES 5: takes one after another, from a reader at the first attribute on, are the raw walk: the k-th answers the
-- walk's k-th answer, and stands at its place
module _ (q : ℕ → Reader) (x : ℕ → Result (Option Attribute) Refusal) (m : ℕ) where
  pub record Taken : Type 0 where
    pub first : (q 0).at ≡ first_attribute (q 0).within.bytes.now
    pub next : (k : ℕ) → k < m → Takes (q k) (x k) (q (suc k))

  pub record Walked : Type 0 where
    pub answers : (k : ℕ) → k < m → told_step (x k) ≡ answer_of (q 0).within.bytes.now (q 0).within.number k
    pub within : (k : ℕ) → k ≤ m → (q k).within ≡ (q 0).within
    pub places : (k : ℕ) → k ≤ m → (q k).at ≡ place_of (q 0).within.bytes.now (q 0).within.number k

abbrev pub TakesWalk : Type 0
TakesWalk = (q : ℕ → Reader) (x : ℕ → Result (Option Attribute) Refusal) (m : ℕ) → Taken q x m → Walked q x m

module _ (s : List ℕ) (n : RecordNumber) where
  -- the walk's k-th attribute stands at its k-th place, and the next place is behind it
  pub record StandsAt (k : ℕ) (h : Attribute) : Type 0 where
    pub place : h.offset ≡ place_of s n k
    pub next : place_of s n (suc k) ≡ h.offset + h.length
    pub inside : Inside s h

  -- from its k-th answer on the walk answers a, and stays at one place
  pub record Still (k : ℕ) (a : Answer Attribute) (j : ℕ) : Type 0 where
    pub answer : answer_of s n (j + k) ≡ a
    pub place : place_of s n (j + k) ≡ place_of s n k

abbrev pub PlacesRise : Type 0
PlacesRise = (s : List ℕ) (n : RecordNumber) (k : ℕ) (h : Attribute) → answer_of s n k ≡ gives h → StandsAt s n k h

abbrev pub EndsStay : Type 0
EndsStay = (s : List ℕ) (n : RecordNumber) (k : ℕ) → answer_of s n k ≡ ends → (j : ℕ) → Still s n k ends j

abbrev pub RefusalsStay : Type 0
RefusalsStay = (s : List ℕ) (n : RecordNumber) (k : ℕ) (r : Refusal) → answer_of s n k ≡ refuses r → (j : ℕ)
    → Still s n k (refuses r) j

-- wherever a reader stands, the end and a refusal leave it as it is
abbrev pub EndsRest : Type 0
EndsRest = (q r : Reader) → Takes q (Ok None) r → r ≡ q

abbrev pub RefusalsRest : Type 0
RefusalsRest = (q r : Reader) (f : Refusal) → Takes q (Err f) r → r ≡ q

-- RULES 6, 7: a piece that lies inside a record and its used part
pub record Lies (s : List ℕ) (p : Piece) : Type 0 where
  pub bytes : p.bytes ≡ take (length p.bytes) (drop p.from s)
  pub most : p.from + length p.bytes ≤ length s
  pub used : p.from + length p.bytes ≤ used_size s

-- the bytes that a value tells of: its own, or its runs
abbrev pub told_of : Contents → Piece
told_of (resident p) = p
told_of (runs p size) = p

module _ (s : List ℕ) (n : RecordNumber) where
  -- of an attribute inside the record
  abbrev pub NameLies : Attribute → Type 0
  NameLies h = (p : Piece) → name_in s n h ≡ gives p → Lies s p

  abbrev pub ValueLies : Attribute → Type 0
  ValueLies h = (v : Contents) → value_in s n h ≡ gives v → Lies s (told_of v)

  -- RULES 8: a list lies inside it too, and is no longer than the attribute that opened it
  pub record ListLies (h : Attribute) (p : Span) : Type 0 where
    pub most : p.from + p.bytes ≤ length s
    pub used : p.from + p.bytes ≤ used_size s
    pub short : p.bytes ≤ h.length

  -- of the attribute at an offset
  abbrev pub NameOfLies : ℕ → Type 0
  NameOfLies at = (p : Piece) → name_of s n at ≡ gives p → Lies s p

  abbrev pub ValueOfLies : ℕ → Type 0
  ValueOfLies at = (v : Contents) → value_of s n at ≡ gives v → Lies s (told_of v)

abbrev pub NamesLie : Type 0
NamesLie = (s : List ℕ) (n : RecordNumber)
    → ((h : Attribute) → Inside s h → NameLies s n h) × ((at : ℕ) → NameOfLies s n at)

abbrev pub ValuesLie : Type 0
ValuesLie = (s : List ℕ) (n : RecordNumber)
    → ((h : Attribute) → Inside s h → ValueLies s n h) × ((at : ℕ) → ValueOfLies s n at)

abbrev pub ListsLie : Type 0
ListsLie = (s : List ℕ) (n : RecordNumber) (h : Attribute) → Inside s h → (p : Span) → list_in s n h ≡ gives p
    → ListLies s n h p

-- RULES 12: a search reads one attribute at most for 16 bytes, and what it finds lies inside the record
abbrev pub SearchesReadFew : Type 0
SearchesReadFew = (s : List ℕ) (n k : RecordNumber) (ty instance : ℕ) (miss : Refusal)
    → header_size * length (find_in k ty instance miss (attributes_of s n)).read ≤ length s

abbrev pub FoundLie : Type 0
FoundLie = (s : List ℕ) (n k : RecordNumber) (ty instance : ℕ) (miss : Refusal) (h : Attribute)
    → (find_in k ty instance miss (attributes_of s n)).answer ≡ gives h → Inside s h

-- and it is what the raw walk has there
abbrev pub FoundStand : Type 0
FoundStand = (s : List ℕ) (n k : RecordNumber) (ty instance : ℕ) (miss : Refusal) (h : Attribute)
    → (find_in k ty instance miss (attributes_of s n)).answer ≡ gives h → step_at s n h.offset ≡ gives h
