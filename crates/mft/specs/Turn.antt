-- RULES 25.2, 26.4: what becomes of the next record, where every base record in use is listed whose file has a name.
use Rattle.std.specs.Prelude.{ℕ, ◌+◌, ◌≡◌, ◌⊎◌, List, [], length, Option, Some, None}
use Rattle.std.specs.Io.KnownBytes.{Keeps, Consumes, IsAtEnd}
use Rattle.fields.specs.declared.Cause.{Cause}
use Rattle.fields.specs.declared.RecordNumber.{RecordNumber}
use Rattle.record.specs.Open.{open_of}
use Rattle.filename.specs.declared.find.Found.{Found}
use Rattle.filename.specs.declared.find.Found.TheVariants.{Yes, No, Unknown}
use Rattle.command.specs.Read.{IsUnread}
use Rattle.command.specs.declared.reason.Reason.TheVariants.{Unlisted, Unsearched}
use Rattle.mft.specs.Gather.{Fetched, lost_of}
use Rattle.mft.specs.Listing.{Skips}
use Rattle.mft.specs.Records.{IsEnd}
use Rattle.mft.specs.Seek.{found_in}
use Rattle.mft.specs.Kind.{kind_of, passed, broken, base}
use Rattle.mft.specs.Told.{ByFetched, IsOwn, ListsBy, FailsBy, heard_of}
use Rattle.mft.specs.declared.layout.Layout.{Layout}
use Rattle.mft.specs.declared.manner.Manner.{Manner}
use Rattle.mft.specs.declared.told.Told.{Told}
use Rattle.mft.specs.declared.turn.Turn.{Turn}
use Rattle.mft.specs.declared.turn.Turn.TheVariants as turn

module _ {R : Type 0} (stands : R → Option ℕ) (left : R → Option (List ℕ)) (l : Layout) (m : Manner)
    (wanted : Option (List ℕ)) (n : RecordNumber) where
  -- the name that is wanted is there, or is not, or that is not known, by every lookup that has what was fetched; where
  -- none is wanted, every file is
  abbrev pub Finds : List ℕ → List Fetched → Option (List ℕ) → Found → Type 0
  Finds b fs None found = found ≡ Yes
  Finds b fs (Some name) found = ByFetched fs (λ peek. found_in peek name (open_of b n) ≡ found)

  -- its file was listed where it has the name, as by every such lookup; where that is not known, this is told
  abbrev pub ListsFound : Option (List ℕ) → Option (List ℕ) → Told → List ℕ → List Fetched → Found → Type 0
  ListsFound old new t b fs Yes = ListsBy stands left l n m old new t b fs
  ListsFound old new t b fs No = ⊥
  ListsFound old new t b fs (Unknown e) =
      (t.lost.items ≡ lost_of fs) × Skips (λ r. r ≡ Unsearched n e.cause) old new (heard_of t)

  -- of a record whose raw bytes are sound, and which is a base record in use
  abbrev pub PassesBase : List ℕ → Type 0
  PassesBase own = (b : List ℕ) × ((fs : List Fetched) × IsOwn stands left l n own b fs × Finds b fs wanted No)

  abbrev pub TellsBase : List ℕ → Option (List ℕ) → Option (List ℕ) → Told → Type 0
  TellsBase own old new t =
      ((t.lost.items ≡ []) × Skips IsUnread old new (heard_of t))
      ⊎ ((b : List ℕ) × ((fs : List Fetched) × IsOwn stands left l n own b fs
      × ((found : Found) × Finds b fs wanted found × ListsFound old new t b fs found)))

  abbrev pub TurnsBase : List ℕ → Option (List ℕ) → Option (List ℕ) → Turn → Type 0
  TurnsBase own old new turn.End = ⊥
  TurnsBase own old new (turn.Ended r) = ⊥
  TurnsBase own old new turn.Passed = Keeps old new × PassesBase own
  TurnsBase own old new (turn.Told t) = (t.number ≡ n) × TellsBase own old new t

  -- a write failed behind a front of the listing of one whose file has the name
  abbrev pub FailsFound : List ℕ → Option (List ℕ) → Option (List ℕ) → Type 0
  FailsFound own old new =
      (b : List ℕ) × ((fs : List Fetched) × IsOwn stands left l n own b fs
      × Finds b fs wanted Yes × FailsBy stands left l n m old new b fs)

  -- one that is refused is told
  abbrev pub TellsBroken : List ℕ → Option (List ℕ) → Option (List ℕ) → Told → Type 0
  TellsBroken own old new t =
      (t.number ≡ n) × (t.lost.items ≡ [])
      × ((c : Cause) × (kind_of own n ≡ broken c) × Skips (λ r. r ≡ Unlisted n c) old new (heard_of t))

  abbrev pub IsBaseInUse : List ℕ → Type 0
  IsBaseInUse own = (b : List ℕ) × (kind_of own n ≡ base b)

  -- the next raw record was read, as many bytes as records have, and so the next number is one more
  module _ (before after : Option (List ℕ)) (next : RecordNumber) where
    abbrev pub IsNext : List ℕ → Type 0
    IsNext own = Consumes before after own × (length own ≡ l.size) × (next.0 ≡ n.0 + 1)

    abbrev pub Turns : Option (List ℕ) → Option (List ℕ) → Turn → Type 0
    Turns old new turn.End = Keeps old new × IsAtEnd before
    Turns old new (turn.Ended r) = Keeps old new × IsEnd before l.size n r
    Turns old new turn.Passed =
        (own : List ℕ) × IsNext own
        × ((Keeps old new × (kind_of own n ≡ passed)) ⊎ (IsBaseInUse own × TurnsBase own old new turn.Passed))
    Turns old new (turn.Told t) =
        (own : List ℕ) × IsNext own
        × (TellsBroken own old new t ⊎ (IsBaseInUse own × TurnsBase own old new (turn.Told t)))

    abbrev pub FailsNext : Option (List ℕ) → Option (List ℕ) → Type 0
    FailsNext old new = (own : List ℕ) × IsNext own × IsBaseInUse own × FailsFound own old new
