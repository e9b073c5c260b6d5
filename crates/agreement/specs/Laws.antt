-- RULES 24.5, 24.6: what two lookups give that agree, as the contracts of src/lib.rt have it.
use Rattle.std.specs.Prelude.{ℕ, ◌≡◌, List, Option, Some, Contains}
use Rattle.fields.specs.Answer.{gives}
use Rattle.fields.specs.declared.RecordNumber.{RecordNumber}
use Rattle.table.specs.Check.{table_of}
use Rattle.table.specs.Held.{record_of, base_of}
use Rattle.table.specs.declared.check.TableHeader.{TableHeader}
use Rattle.items.specs.Lookup.{lookup_of}
use Rattle.items.specs.State.{fresh_of}
use Rattle.items.specs.Calls.{calls_from, items_of}
use Rattle.items.specs.First.{first_of}
use Rattle.items.specs.declared.walk.Item.{Item}
use Rattle.parts.specs.Parts.{parts_of}
use Rattle.lines.specs.Numbered.{table_listing, record_listing}
use Rattle.agreement.specs.Agree.{Agree}
use Rattle.agreement.specs.Door.{listing_by}

-- what holds of all lookups that agree on what the lists of a record refer to
abbrev pub OfAgreeing : (List ℕ → RecordNumber → (RecordNumber → Option (List ℕ)) → (RecordNumber → Option (List ℕ))
    → Type 0) → Type 0
OfAgreeing P = (s : List ℕ) (n : RecordNumber) (look peek : RecordNumber → Option (List ℕ)) → Agree s n look peek
    → P s n look peek

-- the same calls of a walk from fresh on: their answers, the states that they leave, and what they read
abbrev pub CallsAgree : Type 0
CallsAgree = OfAgreeing λ s n look peek. calls_from s n look (fresh_of s) ≡ calls_from s n peek (fresh_of s)

-- the same first item of a type
abbrev pub FirstsAgree : Type 0
FirstsAgree = OfAgreeing λ s n look peek. (ty : ℕ) → first_of s n look ty ≡ first_of s n peek ty

-- for each item of the walk the same record, and the same parts with the same reads, whatever room there is
abbrev pub PartsAgree : Type 0
PartsAgree = OfAgreeing λ s n look peek. (i : Item) → Contains (items_of s n look) (gives i)
    → ((place : ℕ) → lookup_of s n look i.file place ≡ lookup_of s n peek i.file place)
    × ((room : ℕ) → parts_of s n look room i.rest ≡ parts_of s n peek room i.rest)

-- the same listing
abbrev pub ListingsAgree : Type 0
ListingsAgree = OfAgreeing λ s n look peek. (room size : ℕ)
    → listing_by room look size s n ≡ listing_by room peek size s n

-- RULES 24.6: the listing of a table is that of its base record by any lookup that agrees with the table's; so is that
-- of a record that is named
abbrev pub TablesList : Type 0
TablesList = (t s : List ℕ) (n : RecordNumber) (h : TableHeader) (peek : RecordNumber → Option (List ℕ)) (room : ℕ)
    → table_of t ≡ gives h → Agree s n (record_of t) peek
    → (base_of t ≡ Some (record { number = n; bytes = s }) → table_listing room t ≡ listing_by room peek h.size s n)
    × (record_of t n ≡ Some s → record_listing room t n ≡ listing_by room peek h.size s n)
