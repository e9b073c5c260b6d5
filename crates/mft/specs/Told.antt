-- RULES 24.6: what becomes of a record of a raw $MFT that is to be listed.
use Rattle.std.specs.Prelude.{ℕ, ◌≡◌, ◌≤◌, ◌⊎◌, ◌&&◌, max, List, [], ◌∷◌, Bool, true, false, All}
use Rattle.std.specs.Prelude.{Option, Some, None}
use Rattle.lines.specs.Went.{StopsWithin}
use Rattle.fields.specs.declared.RecordNumber.{RecordNumber}
use Rattle.table.specs.Check.{number_end}
use Rattle.table.specs.Layout.{header_size}
use Rattle.record.specs.Open.{open_of}
use Rattle.extract.specs.Fixup.{verdict_of, sound}
use Rattle.extract.specs.Laws.{found_by}
use Rattle.command.specs.Read.{IsUnread}
use Rattle.command.specs.Reason.{status_of}
use Rattle.command.specs.Status.{code_of}
use Rattle.command.specs.declared.absence.Absence.{Absence}
use Rattle.command.specs.declared.reason.Reason.{Reason}
use Rattle.command.specs.declared.reason.Reason.TheVariants.{Absent, Unmade}
use Rattle.command.specs.declared.status.Status.TheVariants.{Stopped}
use Rattle.command.specs.declared.unmade.Unmade.TheVariants.{RowNumber}
use Rattle.mft.specs.Fetch.{Fetches}
use Rattle.mft.specs.Gather.{Fetched, AreFetched, lost_of, wanted_by}
use Rattle.mft.specs.Layout.{place_in}
use Rattle.mft.specs.Listing.{Tells, Skips, text_by}
use Rattle.mft.specs.declared.layout.Layout.{Layout}
use Rattle.mft.specs.declared.listing.Heard.{Heard}
use Rattle.mft.specs.declared.manner.Manner.{Manner}
use Rattle.mft.specs.declared.told.Told.{Told}

-- the code of the status that follows from a reason, and from something that is the matter
abbrev pub code_by : Option Reason → ℕ
code_by None = 0
code_by (Some r) = code_of (status_of r)

abbrev pub code_if : Bool → ℕ
code_if true = code_of Stopped
code_if false = 0

abbrev pub has_any : {A : Type 0} → List A → Bool
has_any [] = false
has_any (x ∷ xs) = true

-- the worst of the reason, of records that are lost, and of hazards where these count
abbrev pub worst_of : Bool → Told → ℕ
worst_of strict t =
    max (max (code_by t.reason) (code_if (has_any t.lost.items))) (code_if (strict && has_any t.hazards.items))

-- what is told beside what is written
abbrev pub heard_of : Told → Heard
heard_of t = record { hazards = t.hazards; reason = t.reason }

-- a lookup that has each record that was fetched and is sound, fixed up, and none that is lost
abbrev pub held_of : Option Absence → List ℕ → Option (List ℕ)
held_of None raw = found_by (verdict_of raw)
held_of (Some why) raw = None

abbrev pub Has : List Fetched → (RecordNumber → Option (List ℕ)) → Type 0
Has fs peek = All (λ f. peek f.number ≡ held_of f.why f.raw) fs

-- what holds by every such lookup
abbrev pub ByFetched : List Fetched → ((RecordNumber → Option (List ℕ)) → Type 0) → Type 0
ByFetched fs P = (peek : RecordNumber → Option (List ℕ)) → Has fs peek → P peek

-- a reader, by what is known of where it stands and of what it has left
module _ {R : Type 0} (stands : R → Option ℕ) (left : R → Option (List ℕ)) (l : Layout) (n : RecordNumber) where
  -- a raw record is sound, with these bytes where it is fixed up, and all that its listing takes were fetched
  abbrev pub IsOwn : List ℕ → List ℕ → List Fetched → Type 0
  IsOwn own b fs = (verdict_of own ≡ sound b) × AreFetched stands left l n own (wanted_by (open_of b n) n) fs

  -- it was listed, as by every lookup that has what was fetched; or there is no memory for it
  abbrev pub ListsBy : Manner → Option (List ℕ) → Option (List ℕ) → Told → List ℕ → List Fetched → Type 0
  ListsBy m old new t b fs =
      (t.lost.items ≡ lost_of fs)
      × (Skips IsUnread old new (heard_of t) ⊎ ByFetched fs (λ peek. Tells l.size b n peek m old new (heard_of t)))

  abbrev pub Lists : Manner → List ℕ → Option (List ℕ) → Option (List ℕ) → Told → Type 0
  Lists m own old new t = (b : List ℕ) × ((fs : List Fetched) × IsOwn own b fs × ListsBy m old new t b fs)

  -- a write failed behind a front of it
  abbrev pub FailsBy : Manner → Option (List ℕ) → Option (List ℕ) → List ℕ → List Fetched → Type 0
  FailsBy m old new b fs = ByFetched fs (λ peek. StopsWithin old new (text_by l.size b n peek m))

  abbrev pub Fails : Manner → List ℕ → Option (List ℕ) → Option (List ℕ) → Type 0
  Fails m own old new = (b : List ℕ) × ((fs : List Fetched) × IsOwn own b fs × FailsBy m old new b fs)

  -- why nothing is told of a record that is named: it can't be read, is not there to be listed, or no table can have
  -- its number
  abbrev pub IsUntold : Reason → Type 0
  IsUntold r =
      IsUnread r
      ⊎ (((o w : R) × ((raw : List ℕ) × ((why : Absence) × Fetches stands left o w (place_in l n) raw (Some why)
      × (r ≡ Absent n why))))
      ⊎ ((r ≡ Unmade (RowNumber header_size)) × (number_end ≤ n.0)))

  abbrev pub IsRead : List ℕ → Type 0
  IsRead own = (o w : R) × Fetches stands left o w (place_in l n) own None

  -- the record with a number was listed, or nothing is told of it
  abbrev pub IsTold : Manner → Option (List ℕ) → Option (List ℕ) → Told → Type 0
  IsTold m old new t =
      (t.number ≡ n)
      × (((own : List ℕ) × IsRead own × Lists m own old new t)
      ⊎ ((t.lost.items ≡ []) × Skips IsUntold old new (heard_of t)))

  abbrev pub IsFailed : Manner → Option (List ℕ) → Option (List ℕ) → Type 0
  IsFailed m old new = (own : List ℕ) × IsRead own × Fails m own old new
