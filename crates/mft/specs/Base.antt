-- What is told of the base record of a table, by any lookup that agrees with it.
use Rattle.std.specs.Prelude.{ℕ, ◌⊎◌, List, Option}
use Rattle.fields.specs.declared.RecordNumber.{RecordNumber}
use Rattle.table.specs.Held.{record_of}
use Rattle.lines.specs.Went.{StopsWithin}
use Rattle.agreement.specs.Agree.{Agree}
use Rattle.command.specs.Read.{IsUnread}
use Rattle.mft.specs.Made.{IsBase}
use Rattle.mft.specs.declared.listing.Heard.{Heard}
use Rattle.mft.specs.declared.manner.Manner.{Manner}
use Rattle.mft.specs.Listing.{Skips, Tells, text_by}

-- what holds by every lookup that agrees with a table on what the lists of its base record refer to
abbrev pub OfBase : List ℕ → RecordNumber → (ℕ → List ℕ → (RecordNumber → Option (List ℕ)) → Type 0) → Type 0
OfBase t n P = (size : ℕ) (b : List ℕ) (peek : RecordNumber → Option (List ℕ))
    → IsBase t size n b → Agree b n (record_of t) peek → P size b peek

-- a table lists its base record as by each of them; or there is no memory for it
abbrev pub ListsBase : Manner → RecordNumber → List ℕ → Option (List ℕ) → Option (List ℕ) → Heard → Type 0
ListsBase m n t old new heard =
    Skips IsUnread old new heard ⊎ OfBase t n (λ size b peek. Tells size b n peek m old new heard)

-- a write failed behind a front of it
abbrev pub FailsBase : Manner → RecordNumber → List ℕ → Option (List ℕ) → Option (List ℕ) → Type 0
FailsBase m n t old new = OfBase t n (λ size b peek. StopsWithin old new (text_by size b n peek m))
