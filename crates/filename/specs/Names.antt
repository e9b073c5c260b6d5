-- RULES 26.3, 26.4: the names of a file.
use Rattle.std.specs.Prelude.{ℕ, List, [], ◌∷◌, Bool, eqb, bytes_eq, filter_map, Option, Some, None}
use Rattle.std.specs.List.{list_any}
use Rattle.fields.specs.Pick.{pick}
use Rattle.fields.specs.Answer.{Outcome, gives, refuses, ◌⟫◌}
use Rattle.fields.specs.declared.RecordNumber.{RecordNumber}
use Rattle.fields.specs.declared.Refusal.{Refusal}
use Rattle.record.specs.Value.{Contents, resident, runs, value_of}
use Rattle.items.specs.Lookup.{lookup_of}
use Rattle.items.specs.Calls.{items_of}
use Rattle.items.specs.declared.walk.Item.{Item}
use Rattle.filename.specs.Name.{Name, name_of, is_long}
use Rattle.filename.specs.declared.find.Found.{Found}
use Rattle.filename.specs.declared.find.Found.TheVariants.{Yes, No, Unknown}

-- the type of an attribute whose value is a file name
abbrev pub file_name : ℕ
file_name = 48

-- the bytes of a long name
abbrev pub long_of : Option Name → Option (List ℕ)
long_of None = None
long_of (Some n) = pick (is_long n.namespace) (Some n.bytes) None

-- the long name of a value; run bytes and a refusal have none
abbrev pub long_in : Outcome Contents → Option (List ℕ)
long_in (gives (resident p)) = long_of (name_of p.bytes)
long_in (gives (runs p size)) = None
long_in (refuses r) = None

-- the items of a walk, up to its end or its first refusal
unfoldable pub given : List (Outcome Item) → List Item
given [] = []
given (gives i ∷ xs) = i ∷ given xs
given (refuses r ∷ xs) = []

-- the refusal that ends them, if one does
unfoldable pub refusal_in : List (Outcome Item) → Option Refusal
refusal_in [] = None
refusal_in (gives i ∷ xs) = refusal_in xs
refusal_in (refuses r ∷ xs) = Some r

-- whether the one that is wanted is among some names, byte by byte
unfoldable pub is_among : List ℕ → List (List ℕ) → Bool
is_among wanted names = list_any (bytes_eq wanted) names

-- what is known of a name that is not among those of a walk: behind a refusal it may stand
abbrev pub unfound : Option Refusal → Found
unfound None = No
unfound (Some r) = Unknown r

module _ (s : List ℕ) (n : RecordNumber) (look : RecordNumber → Option (List ℕ)) where
  -- the value of an item, in the record that holds it
  unfoldable pub value_by : Item → Outcome Contents
  value_by i = lookup_of s n look i.file 0 ⟫ λ r. value_of r.bytes r.number i.attribute.offset

  unfoldable pub name_by : Item → Option (List ℕ)
  name_by i = pick (eqb i.attribute.ty file_name) (long_in (value_by i)) None

  unfoldable pub names_in : List (Outcome Item) → List (List ℕ)
  names_in xs = filter_map name_by (given xs)

  unfoldable pub names_of : List (List ℕ)
  names_of = names_in (items_of s n look)

  unfoldable pub found_in : List ℕ → List (Outcome Item) → Found
  found_in wanted xs = pick (is_among wanted (names_in xs)) Yes (unfound (refusal_in xs))

  unfoldable pub found_of : List ℕ → Found
  found_of wanted = found_in wanted (items_of s n look)
