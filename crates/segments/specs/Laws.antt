-- RULES 25: what holds of base records and hazards whatever the bytes; src/laws.rt has the functions whose contracts
-- these are.
use Rattle.std.specs.Prelude.{ℕ, ◌+◌, ◌*◌, ◌^◌, ◌%◌, ◌<◌, ◌≡◌, ◌⊎◌, List, [], ◌∷◌, true, map, drop, All, Option}
use Rattle.fields.specs.Le.{le}
use Rattle.fields.specs.Answer.{Outcome, gives, refuses}
use Rattle.fields.specs.declared.RecordNumber.{RecordNumber}
use Rattle.list.specs.Entry.{entry_at}
use Rattle.list.specs.declared.Entry.{Entry}
use Rattle.record.specs.Open.{Lent}
use Rattle.items.specs.Lookup.{lookup_of}
use Rattle.references.specs.Entries.{all_entries}
use Rattle.references.specs.References.{references_of}
use Rattle.agreement.specs.Laws.{OfAgreeing}
use Rattle.segments.specs.Base.{base_reference_of, is_base_in_use}
use Rattle.segments.specs.Placed.{Placed, all_placed}
use Rattle.segments.specs.Hazards.{hazards_of}

-- one holds exactly where the other does
abbrev pub Exactly : Type 0 → Type 0 → Type 0
Exactly P Q = (P → Q) × (Q → P)

-- RULES 25.1: a base reference is the eight bytes at 32
abbrev pub BaseReferencesAreEightBytes : Type 0
BaseReferencesAreEightBytes = (s : List ℕ)
    → le 8 s 32 ≡ (base_reference_of s).file.0 + 2 ^ 48 * (base_reference_of s).sequence

-- RULES 25.2: a base record in use has the lowest bit of its flags, and all eight bytes are zero
pub record BaseInUse (s : List ℕ) : Type 0 where
  pub used : le 2 s 22 % 2 ≡ 1
  pub base : le 8 s 32 ≡ 0

abbrev pub BaseRecordsTell : Type 0
BaseRecordsTell = (s : List ℕ) → Exactly (is_base_in_use s ≡ true) (BaseInUse s)

-- what holds of each entry that is given
abbrev pub Each : (Placed → Type 0) → List (Outcome Placed) → Type 0
Each P [] = Unit {0}
Each P (gives p ∷ ps) = P p × Each P ps
Each P (refuses r ∷ ps) = Unit {0}

abbrev pub unplaced : Outcome Placed → Outcome Entry
unplaced (gives p) = gives p.entry
unplaced (refuses r) = refuses r

-- RULES 25.3: the entries are those that the references are told by, and each stands at its place
abbrev pub EntriesArePlaced : Type 0
EntriesArePlaced = (s : List ℕ) (n : RecordNumber)
    → (map unplaced (all_placed s n) ≡ all_entries s n)
    × Each (λ p. p.entry ≡ entry_at (drop p.place s)) (all_placed s n)

-- a sequence number in a reference, and that of a record: 0 means any
abbrev pub Fits : ℕ → ℕ → Type 0
Fits named has = (named ≡ 0) ⊎ (named ≡ has)

-- a record is in use, and its base reference means the base record with these bytes and this number
pub record RefersBack (s : List ℕ) (n : RecordNumber) (b : List ℕ) : Type 0 where
  pub used : le 2 b 22 % 2 ≡ 1
  pub file : le 6 b 32 ≡ n.0
  pub any : 0 < le 8 b 32
  pub sequence : Fits (le 2 b 38) (le 2 s 16)

-- the base record is in use and has no base; each entry, up to a refusal, has a sequence number that fits its record's;
-- and each record referred to refers back: as far as it can be looked up
pub record Sound (s : List ℕ) (n : RecordNumber) (look : RecordNumber → Option (List ℕ)) : Type 0 where
  pub base : BaseInUse s
  pub entries : Each (λ p. (r : Lent) → lookup_of s n look p.entry.file p.place ≡ gives r
      → Fits (le 2 s (p.place + 22)) (le 2 r.bytes 16)) (all_placed s n)
  pub referred : All (λ m. (r : Lent) → lookup_of s n look m 0 ≡ gives r → RefersBack s n r.bytes)
      (references_of s n).numbers

-- RULES 25.3: exactly then there are no hazards
abbrev pub NoHazards : Type 0
NoHazards = (s : List ℕ) (n : RecordNumber) (look : RecordNumber → Option (List ℕ))
    → Exactly (hazards_of s n look ≡ []) (Sound s n look)

-- RULES 24.5, 25.3: two lookups that agree on what the lists refer to give the same hazards
abbrev pub HazardsAgree : Type 0
HazardsAgree = OfAgreeing λ s n look peek. hazards_of s n look ≡ hazards_of s n peek
