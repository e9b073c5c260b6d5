-- RULES 24: cases as tables: the lists of a record and what is told of them, and numbers and their rising order.
use Rattle.std.specs.Prelude.{ℕ, ◌+◌, ◌≡◌, List, [], ◌∷◌, ◌++◌, map, length, replicate}
use Rattle.std.specs.List.{flat_map}
use Rattle.fields.specs.LeBytes.{le_bytes}
use Rattle.fields.specs.Answer.{Outcome, gives, refuses, refusal}
use Rattle.fields.specs.declared.Cause.TheVariants.{EntryCut}
use Rattle.fields.specs.declared.RecordNumber.{RecordNumber}
use Rattle.record.specs.Open.{FILE}
use Rattle.references.specs.References.{Told, tells, references_of}
use Rattle.references.specs.Rising.{sorted}

abbrev pub number : ℕ → RecordNumber
number n = record { 0 = n }

-- an entry of type 16, with no name, that refers to a record
abbrev pub entry_to : ℕ → List ℕ
entry_to m = le_bytes 4 16 ++ (le_bytes 2 26 ++ (0 ∷ 26 ∷ (le_bytes 8 0 ++ (le_bytes 6 m ++ le_bytes 4 0))))

abbrev pub entries : List ℕ → List ℕ
entries ms = flat_map entry_to ms

-- a resident attribute of type 0x20 whose value is these bytes, from byte 24 on
abbrev pub list_of : List ℕ → List ℕ
list_of b =
    le_bytes 4 0x20 ++ (le_bytes 4 (24 + length b) ++ (replicate 8 0 ++ (le_bytes 4 (length b)
    ++ (24 ∷ 0 ∷ 0 ∷ 0 ∷ b))))

-- a record whose attributes begin at 56, with these lists, and the end marker behind them
abbrev pub record_of : List (List ℕ) → List ℕ
record_of bs =
    FILE ++ (replicate 16 0 ++ (56 ∷ 0 ∷ 0 ∷ 0 ∷ (le_bytes 4 (56 + length (flat_map list_of bs)) ++ (replicate 28 0
    ++ (flat_map list_of bs ++ le_bytes 4 0xFFFFFFFF)))))

-- lists of a record with number 40, and what is told
pub record Case : Type 0 where
  pub lists : List (List ℕ)
  pub says : Told

abbrev pub case : List (List ℕ) → List ℕ → Outcome Unit → Case
case bs ms a = record { lists = bs; says = tells (map number ms) a }

abbrev pub cases : List Case
cases =
    -- no list, a list of no entry, one entry to the record itself
    case [] [] (gives tt)
    ∷ case (entries [] ∷ []) [] (gives tt)
    ∷ case (entries (40 ∷ []) ∷ []) [] (gives tt)
    -- one entry to another record, and two
    ∷ case (entries (39 ∷ []) ∷ []) (39 ∷ []) (gives tt)
    ∷ case (entries (41 ∷ 41 ∷ []) ∷ []) (41 ∷ []) (gives tt)
    -- two others, the larger first, with the record itself between them
    ∷ case (entries (41 ∷ 40 ∷ 39 ∷ []) ∷ []) (41 ∷ 39 ∷ []) (gives tt)
    -- two lists
    ∷ case (entries (41 ∷ []) ∷ entries (39 ∷ 41 ∷ []) ∷ []) (41 ∷ 39 ∷ []) (gives tt)
    -- an entry that is cut off, behind another; the next list is not come to
    ∷ case ((entries (41 ∷ []) ++ (16 ∷ [])) ∷ entries (39 ∷ []) ∷ []) (41 ∷ [])
    (refuses (refusal EntryCut (number 40) 106))
    ∷ []

abbrev pub ReferencesTold : Type 0
ReferencesTold = map (λ c. references_of (record_of c.lists) (number 40)) cases ≡ map (λ c. c.says) cases

-- numbers, and the same in rising order
pub record Sort : Type 0 where
  pub numbers : List ℕ
  pub says : List ℕ

abbrev pub sort : List ℕ → List ℕ → Sort
sort ms a = record { numbers = ms; says = a }

abbrev pub sorts : List Sort
sorts =
    sort [] []
    ∷ sort (7 ∷ []) (7 ∷ [])
    ∷ sort (7 ∷ 9 ∷ []) (7 ∷ 9 ∷ [])
    ∷ sort (9 ∷ 7 ∷ []) (7 ∷ 9 ∷ [])
    ∷ sort (8 ∷ 9 ∷ 7 ∷ []) (7 ∷ 8 ∷ 9 ∷ [])
    ∷ sort (7 ∷ 9 ∷ 7 ∷ []) (7 ∷ 7 ∷ 9 ∷ [])
    ∷ []

abbrev pub Sorted : Type 0
Sorted = map (λ c. sorted (map number c.numbers)) sorts ≡ map (λ c. map number c.says) sorts
