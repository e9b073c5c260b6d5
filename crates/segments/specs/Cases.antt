-- RULES 25: cases as tables, on both sides of each line.
use Rattle.std.specs.Prelude.{ℕ, ◌+◌, ◌-◌, ◌≡◌, Bool, true, false, List, [], ◌∷◌, ◌++◌, map, length, replicate, eqb}
use Rattle.std.specs.Prelude.{Option, Some, None}
use Rattle.std.specs.List.{flat_map}
use Rattle.fields.specs.Pick.{pick}
use Rattle.fields.specs.LeBytes.{le_bytes}
use Rattle.fields.specs.declared.RecordNumber.{RecordNumber}
use Rattle.record.specs.Open.{FILE}
use Rattle.references.specs.Cases.{number, list_of}
use Rattle.segments.specs.Base.{is_base_in_use}
use Rattle.segments.specs.Hazards.{hazards_of}
use Rattle.segments.specs.declared.Reference.{Reference}
use Rattle.segments.specs.declared.find.Hazard.{Hazard}
use Rattle.segments.specs.declared.find.Hazard.TheVariants as hazard

abbrev pub reference : ℕ → ℕ → Reference
reference m q = record { file = number m; sequence = q }

-- a record's sequence number, flags, reference to a base record, and the values of its lists
pub record Segment : Type 0 where
  pub sequence : ℕ
  pub flags : ℕ
  pub base : Reference
  pub lists : List (List ℕ)

abbrev pub segment : ℕ → ℕ → Reference → List (List ℕ) → Segment
segment q f b ls = record { sequence = q; flags = f; base = b; lists = ls }

-- the bytes of such a record: its attributes begin at 56, and the end marker stands behind them
abbrev pub bytes_of : Segment → List ℕ
bytes_of c =
    FILE ++ (replicate 12 0 ++ (le_bytes 2 c.sequence ++ (0 ∷ 0 ∷ 56 ∷ 0 ∷ (le_bytes 2 c.flags
    ++ (le_bytes 4 (56 + length (flat_map list_of c.lists)) ++ (replicate 4 0
    ++ (le_bytes 6 c.base.file.0 ++ (le_bytes 2 c.base.sequence ++ (replicate 16 0
    ++ (flat_map list_of c.lists ++ le_bytes 4 0xFFFFFFFF))))))))))

-- RULES 25.2: flags and the eight bytes, and whether they are a base record's in use
pub record Header : Type 0 where
  pub flags : ℕ
  pub base : List ℕ
  pub says : Bool

abbrev pub header : ℕ → List ℕ → Bool → Header
header f b a = record { flags = f; base = b; says = a }

abbrev pub header_bytes : Header → List ℕ
header_bytes h = replicate 22 255 ++ (le_bytes 2 h.flags ++ (replicate 8 255 ++ (h.base ++ replicate 24 255)))

-- eight bytes of which one is set
abbrev pub one_set : ℕ → List ℕ
one_set k = replicate k 0 ++ (1 ∷ replicate (7 - k) 0)

abbrev pub headers : List Header
headers =
    header 0 (replicate 8 0) false
    ∷ header 1 (replicate 8 0) true
    ∷ header 2 (replicate 8 0) false
    ∷ header 3 (replicate 8 0) true
    ∷ header 0xFFFE (replicate 8 0) false
    ∷ header 0xFFFF (replicate 8 0) true
    ∷ map (λ k. header 1 (one_set k) false) (0 ∷ 1 ∷ 2 ∷ 3 ∷ 4 ∷ 5 ∷ 6 ∷ 7 ∷ [])

abbrev pub BaseRecords : Type 0
BaseRecords = map (λ h. is_base_in_use (header_bytes h)) headers ≡ map (λ h. h.says) headers

-- RULES 25.3: the base record, which has this number, record 41 beside it, if there is one, and the hazards
pub record Case : Type 0 where
  pub own : ℕ
  pub base : Segment
  pub other : Option (List ℕ)
  pub says : List Hazard

abbrev pub case : ℕ → Segment → Option (List ℕ) → List Hazard → Case
case n b o a = record { own = n; base = b; other = o; says = a }

-- an entry of type 16, with no name, and its reference
abbrev pub entry_to : Reference → List ℕ
entry_to r =
    le_bytes 4 16 ++ (le_bytes 2 26 ++ (0 ∷ 26 ∷ (le_bytes 8 0 ++ (le_bytes 6 r.file.0 ++ (le_bytes 2 r.sequence
    ++ (0 ∷ 0 ∷ []))))))

-- a base record in use with sequence number 7, whose one list has these entries: the first stands at 80, and each takes
-- 26 bytes
abbrev pub base_to : List Reference → Segment
base_to rs = segment 7 1 (reference 0 0) (flat_map entry_to rs ∷ [])

-- record 41 in use with sequence number 3, and this reference to a base record
abbrev pub other_to : Reference → Option (List ℕ)
other_to r = Some (bytes_of (segment 3 1 r []))

-- record 41 with these flags, which refers back to 40
abbrev pub other_with : ℕ → Option (List ℕ)
other_with f = Some (bytes_of (segment 3 f (reference 40 7) []))

abbrev pub other_base : ℕ → Reference → Hazard
other_base m r = hazard.OtherBase (number m) r

abbrev pub cases : List Case
cases =
    -- the sequence number in an entry: the record's own, 0, one less, one more, and any that can't be looked up
    case 40 (base_to (reference 41 3 ∷ [])) (other_with 1) []
    ∷ case 40 (base_to (reference 41 0 ∷ [])) (other_with 1) []
    ∷ case 40 (base_to (reference 41 2 ∷ [])) (other_with 1) (hazard.Sequence 80 (number 41) 2 3 ∷ [])
    ∷ case 40 (base_to (reference 41 4 ∷ [])) (other_with 1) (hazard.Sequence 80 (number 41) 4 3 ∷ [])
    ∷ case 40 (base_to (reference 41 2 ∷ [])) None []
    ∷ case 40 (base_to (reference 41 2 ∷ [])) (Some (replicate 64 0)) []
    ∷ case 40 (base_to (reference 42 2 ∷ [])) (other_with 1) []
    -- the same in an entry that names the base record
    ∷ case 40 (base_to (reference 40 7 ∷ [])) None []
    ∷ case 40 (base_to (reference 40 0 ∷ [])) None []
    ∷ case 40 (base_to (reference 40 6 ∷ [])) None (hazard.Sequence 80 (number 40) 6 7 ∷ [])
    -- the other record's flags
    ∷ case 40 (base_to (reference 41 3 ∷ [])) (other_with 0) (hazard.NotInUse (number 41) ∷ [])
    ∷ case 40 (base_to (reference 41 3 ∷ [])) (other_with 2) (hazard.NotInUse (number 41) ∷ [])
    ∷ case 40 (base_to (reference 41 3 ∷ [])) (other_with 3) []
    -- its reference to a base record
    ∷ case 40 (base_to (reference 41 3 ∷ [])) (other_to (reference 40 0)) []
    ∷ case 40 (base_to (reference 41 3 ∷ [])) (other_to (reference 40 6)) (other_base 41 (reference 40 6) ∷ [])
    ∷ case 40 (base_to (reference 41 3 ∷ [])) (other_to (reference 40 8)) (other_base 41 (reference 40 8) ∷ [])
    ∷ case 40 (base_to (reference 41 3 ∷ [])) (other_to (reference 39 7)) (other_base 41 (reference 39 7) ∷ [])
    ∷ case 40 (base_to (reference 41 3 ∷ [])) (other_to (reference 0 0)) (other_base 41 (reference 0 0) ∷ [])
    ∷ case 0 (base_to (reference 41 3 ∷ [])) (other_to (reference 0 7)) []
    ∷ case 0 (base_to (reference 41 3 ∷ [])) (other_to (reference 0 0)) (other_base 41 (reference 0 0) ∷ [])
    -- the base record's own flags and reference
    ∷ case 40 (segment 7 2 (reference 0 0) []) None (hazard.NotInUse (number 40) ∷ [])
    ∷ case 40 (segment 7 1 (reference 0 1) []) None (other_base 40 (reference 0 1) ∷ [])
    ∷ case 40 (segment 7 1 (reference 40 7) []) None (other_base 40 (reference 40 7) ∷ [])
    -- no list, and a record that no list refers to
    ∷ case 40 (segment 7 1 (reference 0 0) []) (other_with 0) []
    -- all of them, in their order; a record that two entries name is told of once
    ∷ case 40 (segment 7 0 (reference 1 1)
    ((entry_to (reference 41 2) ++ entry_to (reference 40 6)) ∷ entry_to (reference 41 1) ∷ []))
    (Some (bytes_of (segment 3 0 (reference 39 0) [])))
    (hazard.NotInUse (number 40) ∷ other_base 40 (reference 1 1)
    ∷ hazard.Sequence 80 (number 41) 2 3 ∷ hazard.Sequence 106 (number 40) 6 7
    ∷ hazard.Sequence 156 (number 41) 1 3
    ∷ hazard.NotInUse (number 41) ∷ other_base 41 (reference 39 0) ∷ [])
    -- an entry that is cut off, behind another; the next list is not come to
    ∷ case 40 (segment 7 1 (reference 0 0) ((entry_to (reference 40 6) ++ (16 ∷ [])) ∷ entry_to (reference 41 2) ∷ []))
    (other_with 0) (hazard.Sequence 80 (number 40) 6 7 ∷ [])
    ∷ []

-- a lookup that knows record 41 at most
abbrev pub lookup_in : Option (List ℕ) → RecordNumber → Option (List ℕ)
lookup_in o m = pick (eqb m.0 41) o None

abbrev pub HazardsTold : Type 0
HazardsTold = map (λ c. hazards_of (bytes_of c.base) (number c.own) (lookup_in c.other)) cases ≡ map (λ c. c.says) cases
