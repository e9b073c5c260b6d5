-- RULES 20: both sides of each line, as one table: a question of these definitions, the bytes that it is asked of,
-- and what is to be answered.
use Rattle.std.specs.Prelude.{ℕ, ◌+◌, ◌-◌, ◌/◌, ◌^◌, ◌≡◌, Bool, true, false}
use Rattle.std.specs.Prelude.{List, [], ◌∷◌, ◌++◌, map, length, drop, replicate}
use Rattle.fields.specs.LeBytes.{le_bytes}
use Rattle.fields.specs.Answer.{Outcome, Answer, gives, ends, refuses, refusal, unended}
use Rattle.fields.specs.declared.Cause.{Cause}
use Rattle.fields.specs.declared.Cause.TheVariants.{AttributeCut, AttributeShort, AttributeLong, NameOffset}
use Rattle.fields.specs.declared.Cause.TheVariants.{ValueEnd, EntryShort, EntryNameOutside, EntryNameCut, UsedSize}
use Rattle.fields.specs.declared.Cause.TheVariants.{AttributeStale}
use Rattle.fields.specs.declared.RecordNumber.{RecordNumber}
use Rattle.list.specs.Entry.{entry_of}
use Rattle.list.specs.declared.Entry.{Entry}
use Rattle.record.specs.Open.{FILE, Lent, open_of}
use Rattle.record.specs.Walk.{step_at}
use Rattle.record.specs.Name.{name_of}
use Rattle.record.specs.Value.{value_of}
use Rattle.items.specs.Key.{key_of, continues}

-- a raw step, a name or a value of a record that is opened first; or an entry
pub data Ask : Type 0 where
  step : Ask
  name : Ask
  value : Ask
  entry : Ask

-- a row: the question, the record's length and used size, the place, the bytes that stand there, and the answer
pub record Row : Type 0 where
  pub asks : Ask
  pub long : ℕ
  pub used : ℕ
  pub place : ℕ
  pub bytes : List ℕ
  pub says : Answer Unit

abbrev pub row_used : Ask → ℕ → ℕ → ℕ → List ℕ → Answer Unit → Row
row_used q m u p b a = record { asks = q; long = m; used = u; place = p; bytes = b; says = a }

-- used to its length
abbrev pub row : Ask → ℕ → ℕ → List ℕ → Answer Unit → Row
row q m p b a = row_used q m m p b a

-- every case is asked of record 40
abbrev pub number : RecordNumber
number = record { 0 = 40 }

-- a record of m bytes that begins with FILE, has its used size at 24 and these bytes at a place, and else zeros
abbrev pub record_with : ℕ → ℕ → ℕ → List ℕ → List ℕ
record_with m u p b =
    FILE ++ (replicate 20 0 ++ (le_bytes 4 u ++ (replicate (p - 28) 0 ++ (b ++ replicate (m - p - length b) 0))))

-- accepted, the end, or the refusal, whatever the value
abbrev pub verdict : {A : Type 0} → Answer A → Answer Unit
verdict (gives x) = gives tt
verdict ends = ends
verdict (refuses r) = refuses r

-- of a record that is opened first
abbrev pub behind_opening : {A : Type 0} → Outcome Lent → Answer A → Answer Unit
behind_opening (gives x) a = verdict a
behind_opening (refuses r) a = refuses r

abbrev pub answer_to : Ask → List ℕ → ℕ → Answer Unit
answer_to step s p = behind_opening (open_of s number) (step_at s number p)
answer_to name s p = behind_opening (open_of s number) (unended (name_of s number p))
answer_to value s p = behind_opening (open_of s number) (unended (value_of s number p))
answer_to entry s p = verdict (entry_of (drop p s) number p)

-- a refusal in record 40, at a place
abbrev pub refused : Cause → ℕ → Answer Unit
refused c p = refuses (refusal c number p)

-- a resident attribute's first bytes: type 16, a length, then name units, name offset, value length and value offset
abbrev pub attribute : ℕ → ℕ → ℕ → List ℕ → ℕ → List ℕ
attribute size units at many from =
    16 ∷ 0 ∷ 0 ∷ 0 ∷ size ∷ 0 ∷ 0 ∷ 0 ∷ 0 ∷ units ∷ at ∷ 0 ∷ 0 ∷ 0 ∷ 0 ∷ 0 ∷ (many ++ (from ∷ 0 ∷ []))

-- a list entry's first bytes: type 16, a length, then name units and name offset
abbrev pub entry_bytes : ℕ → ℕ → ℕ → List ℕ
entry_bytes size units at = 16 ∷ 0 ∷ 0 ∷ 0 ∷ size ∷ 0 ∷ units ∷ at ∷ []

abbrev pub none : List ℕ
none = 0 ∷ 0 ∷ 0 ∷ 0 ∷ []

abbrev pub most : List ℕ
most = 255 ∷ 255 ∷ 255 ∷ 255 ∷ []

abbrev pub rows : List Row
rows =
    -- length 16 accepted, 15 gives 4; 16 bytes left with length 17 gives 5
    row step 96 56 (attribute 16 0 0 none 0) (gives tt)
    ∷ row step 96 56 (attribute 15 0 0 none 0) (refused AttributeShort 56)
    ∷ row step 72 56 (16 ∷ 0 ∷ 0 ∷ 0 ∷ 17 ∷ []) (refused AttributeLong 56)
    -- 4 bytes left holding type 16 gives 3; 3 bytes left: the end
    ∷ row step 64 60 (16 ∷ []) (refused AttributeCut 60)
    ∷ row step 64 61 (16 ∷ []) ends
    -- name offset 32, one unit, in length 32 gives 8; value offset 32, length 0, in 32 accepted
    ∷ row name 96 56 (attribute 32 1 32 none 0) (refused NameOffset 56)
    ∷ row value 96 56 (attribute 32 0 0 none 32) (gives tt)
    -- value offset 24, length 4,294,967,295 gives 11
    ∷ row value 96 56 (attribute 32 0 0 most 24) (refused ValueEnd 56)
    -- entry length 28 with one name unit accepted, 27 gives 15; entry length 40, no name, with 32 left: the end
    ∷ row entry 96 64 (entry_bytes 28 1 26) (gives tt)
    ∷ row entry 96 64 (entry_bytes 27 1 26) (refused EntryShort 64)
    ∷ row entry 96 64 (entry_bytes 40 0 26) ends
    -- 26 left, length 28, one unit gives 16
    ∷ row entry 96 70 (entry_bytes 28 1 26) (refused EntryNameCut 70)
    -- a name at 25 gives 31; one that ends with its entry is accepted, one that ends past it gives 31
    ∷ row entry 96 64 (entry_bytes 28 1 25) (refused EntryNameOutside 64)
    ∷ row entry 96 64 (entry_bytes 30 1 28) (gives tt)
    ∷ row entry 96 64 (entry_bytes 30 1 29) (refused EntryNameOutside 64)
    -- no name: any name offset is accepted
    ∷ row entry 96 64 (entry_bytes 26 0 0) (gives tt)
    ∷ row entry 96 70 (entry_bytes 26 0 255) (gives tt)
    -- 15 comes before 31, and 31 before 16
    ∷ row entry 96 64 (entry_bytes 27 1 25) (refused EntryShort 64)
    ∷ row entry 96 70 (entry_bytes 28 1 25) (refused EntryNameOutside 70)
    -- 32 left, length 34: a name that ends at 32: the end; one that ends at 33 gives 16
    ∷ row entry 96 64 (entry_bytes 34 1 30) ends
    ∷ row entry 96 64 (entry_bytes 34 1 31) (refused EntryNameCut 64)
    -- used size 72 in 72 bytes accepted, 73 gives 27 at 0
    ∷ row_used step 72 72 56 (16 ∷ 0 ∷ 0 ∷ 0 ∷ 16 ∷ []) (gives tt)
    ∷ row_used step 72 73 56 (16 ∷ 0 ∷ 0 ∷ 0 ∷ 16 ∷ []) (refused UsedSize 0)
    -- an attribute that ends at 88: used size 88 accepted, 87 gives 28, in a name and a value too
    ∷ row_used step 96 88 56 (attribute 32 0 0 none 24) (gives tt)
    ∷ row_used step 96 87 56 (attribute 32 0 0 none 24) (refused AttributeStale 56)
    ∷ row_used name 96 88 56 (attribute 32 0 0 none 24) (gives tt)
    ∷ row_used name 96 87 56 (attribute 32 0 0 none 24) (refused AttributeStale 56)
    ∷ row_used value 96 88 56 (attribute 32 0 0 none 24) (gives tt)
    ∷ row_used value 96 87 56 (attribute 32 0 0 none 24) (refused AttributeStale 56)
    -- 3, 4 and 5 come before 28
    ∷ row_used step 64 0 60 (16 ∷ []) (refused AttributeCut 60)
    ∷ row_used step 96 0 56 (attribute 15 0 0 none 0) (refused AttributeShort 56)
    ∷ row_used step 72 0 56 (16 ∷ 0 ∷ 0 ∷ 0 ∷ 17 ∷ []) (refused AttributeLong 56)
    -- the end marker and 3 bytes left end the walk past the used size too
    ∷ row_used step 96 0 56 most ends
    ∷ row_used step 64 0 61 (16 ∷ []) ends
    ∷ []

-- each question is answered so
abbrev pub BothSides : Type 0
BothSides =
    map (λ r. answer_to r.asks (record_with r.long r.used r.place r.bytes) r.place) rows ≡ map (λ r. r.says) rows

-- RULES 14.9: an entry of type 128 with a name left a key; whether another with this type, name and lowest VCN
-- continues its stream
pub record Join : Type 0 where
  pub key : List ℕ
  pub ty : ℕ
  pub name : List ℕ
  pub lowest : ℕ
  pub says : Bool

abbrev pub join : List ℕ → ℕ → List ℕ → ℕ → Bool → Join
join k t m v a = record { key = k; ty = t; name = m; lowest = v; says = a }

abbrev pub entry_with : ℕ → List ℕ → ℕ → Entry
entry_with t m v = record {
  ty = t;
  length = 26 + length m;
  name_units = length m / 2;
  name_offset = 26;
  lowest = record { 0 = v };
  file = number;
  instance = 0;
}

-- names of two units, of one, of three, and of two that end otherwise
abbrev pub two : List ℕ
two = 65 ∷ 0 ∷ 66 ∷ 0 ∷ []

abbrev pub one : List ℕ
one = 65 ∷ 0 ∷ []

abbrev pub three : List ℕ
three = 65 ∷ 0 ∷ 66 ∷ 0 ∷ 67 ∷ 0 ∷ []

abbrev pub other : List ℕ
other = 65 ∷ 0 ∷ 66 ∷ 1 ∷ []

abbrev pub joins : List Join
joins =
    -- lowest VCN 0 begins a stream; 1, 2^63 and 2^64 - 1 continue one
    join two 128 two 0 false
    ∷ join two 128 two 1 true
    ∷ join two 128 two (2 ^ 63) true
    ∷ join two 128 two (2 ^ 64 - 1) true
    -- a unit more, a unit less, another last byte, another type
    ∷ join two 128 three 1 false
    ∷ join two 128 one 1 false
    ∷ join two 128 other 1 false
    ∷ join two 144 two 1 false
    -- no name; and one of 255 units
    ∷ join [] 128 [] 1 true
    ∷ join [] 128 one 1 false
    ∷ join one 128 [] 1 false
    ∷ join (replicate 510 7) 128 (replicate 510 7) 1 true
    ∷ []

abbrev pub Joined : Type 0
Joined = map (λ j. continues (key_of (entry_with 128 j.key 0) j.key) (entry_with j.ty j.name j.lowest) j.name) joins
    ≡ map (λ j. j.says) joins
