-- RULES 26: what holds of names whatever the bytes; src/laws.rt has the functions whose contracts these are.
use Rattle.std.specs.Prelude.{ℕ, ◌+◌, ◌*◌, ◌≤◌, ◌≡◌, List, [], ◌∷◌, ◌++◌, map, length, get_or, take, drop}
use Rattle.std.specs.Prelude.{◌⊎◌, Contains}
use Rattle.std.specs.Prelude.{Option, Some, slice_get}
use Rattle.fields.specs.Answer.{Outcome, gives, refuses}
use Rattle.fields.specs.declared.RecordNumber.{RecordNumber}
use Rattle.fields.specs.declared.Refusal.{Refusal}
use Rattle.record.specs.Open.{Lent}
use Rattle.record.specs.View.{Piece}
use Rattle.record.specs.Value.{resident, value_of}
use Rattle.items.specs.Lookup.{lookup_of}
use Rattle.items.specs.Calls.{items_of}
use Rattle.items.specs.declared.walk.Item.{Item}
use Rattle.agreement.specs.Laws.{OfAgreeing}
use Rattle.filename.specs.declared.value.Namespace.{Namespace}
use Rattle.filename.specs.declared.value.Namespace.TheVariants.{Posix, Win32, Win32AndDos}
use Rattle.filename.specs.Name.{Name, name, namespace_of, name_of}
use Rattle.filename.specs.Names.{given, name_by, names_in, names_of, found_of}
use Rattle.filename.specs.declared.find.Found.{Found}
use Rattle.filename.specs.declared.find.Found.TheVariants.{Yes, No, Unknown}

-- a name in a value: two bytes for each unit, behind the first 66 bytes and in front of whatever else the value has
pub record Lies (v : List ℕ) (m : Name) : Type 0 where
  pub units : length m.bytes ≡ 2 * get_or v 64 0
  pub stands : take 66 v ++ (m.bytes ++ drop (66 + length m.bytes) v) ≡ v
  pub most : 66 + length m.bytes ≤ length v

abbrev pub NamesLie : Type 0
NamesLie = (v : List ℕ) (m : Name) → name_of v ≡ Some m → Lies v m

-- a value that is made of 64 bytes, a name's length in units, its namespace and its bytes has that name, whatever
-- stands behind
abbrev pub NamesReadBack : Type 0
NamesReadBack = (front : List ℕ) (units space : ℕ) (bytes behind : List ℕ) → length front ≡ 64
    → length bytes ≡ 2 * units
    → name_of (front ++ (units ∷ space ∷ (bytes ++ behind))) ≡ Some (name (namespace_of space) bytes)

-- a long name is one of POSIX, or of Win32, or of Win32 and DOS together
abbrev pub IsLong : Namespace → Type 0
IsLong k = (k ≡ Posix) ⊎ (k ≡ Win32) ⊎ (k ≡ Win32AndDos)

module _ (s : List ℕ) (n : RecordNumber) (look : RecordNumber → Option (List ℕ)) (i : Item) (b : List ℕ) where
  -- an item that has a name of these bytes: it is of type 48, its record is found, and its value there is resident and
  -- has that name, which is long
  pub record HasName : Type 0 where
    pub ty : i.attribute.ty ≡ 48
    pub within : Lent
    pub opened : lookup_of s n look i.file 0 ≡ gives within
    pub value : Piece
    pub stands : value_of within.bytes within.number i.attribute.offset ≡ gives (resident value)
    pub space : Namespace
    pub name : name_of value.bytes ≡ Some (name space b)
    pub long : IsLong space

-- an item's name is one that it has, and each that it has
abbrev pub ItemsHaveNames : Type 0
ItemsHaveNames = (s : List ℕ) (n : RecordNumber) (look : RecordNumber → Option (List ℕ)) (i : Item) (b : List ℕ)
    → (name_by s n look i ≡ Some b → HasName s n look i b) × (HasName s n look i b → name_by s n look i ≡ Some b)

-- what a walk gives behind a refusal has no name
abbrev pub RefusalsEnd : Type 0
RefusalsEnd = (s : List ℕ) (n : RecordNumber) (look : RecordNumber → Option (List ℕ)) (xs ys : List (Outcome Item))
    (r : Refusal) → names_in s n look (xs ++ (refuses r ∷ ys)) ≡ names_in s n look xs

-- what each answer says of a name that is sought, where these are the names of a walk and these its items: the walk
-- came to its end, or is ended by the refusal
abbrev pub Says : List ℕ → List (List ℕ) → List (Outcome Item) → Found → Type 0
Says wanted ms xs Yes = Contains ms wanted
Says wanted ms xs No = (Contains ms wanted → ⊥) × (xs ≡ map gives (given xs))
Says wanted ms xs (Unknown r) = (Contains ms wanted → ⊥) × (xs ≡ map gives (given xs) ++ (refuses r ∷ []))

-- RULES 26.4: a name is told to be there, or not to be, or to be unknown, just where it is so
abbrev pub Has : Type 0
Has = (s : List ℕ) (n : RecordNumber) (look : RecordNumber → Option (List ℕ)) (wanted : List ℕ)
    → Says wanted (names_of s n look) (items_of s n look) (found_of s n look wanted)

-- a file has its first name
abbrev pub HasFirst : Type 0
HasFirst = (s : List ℕ) (n : RecordNumber) (look : RecordNumber → Option (List ℕ)) (m : List ℕ)
    → slice_get (names_of s n look) 0 ≡ Some m → found_of s n look m ≡ Yes

-- RULES 26.5: two lookups that agree on what the lists refer to give the same names
abbrev pub NamesAgree : Type 0
NamesAgree = OfAgreeing λ s n look peek. names_of s n look ≡ names_of s n peek

-- and the same answer to whether one is there
abbrev pub FoundAgree : Type 0
FoundAgree = OfAgreeing λ s n look peek. (wanted : List ℕ) → found_of s n look wanted ≡ found_of s n peek wanted
