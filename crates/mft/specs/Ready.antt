-- The table that a record is listed by is ready in a buffer.
use Rattle.std.specs.Prelude.{ℕ, ◌≡◌, ◌≤◌, List, length, take, Option}
use Rattle.fields.specs.declared.RecordNumber.{RecordNumber}
use Rattle.mft.specs.Gather.{Fetched, lost_of}
use Rattle.mft.specs.Gathered.{numbers_of, raw_of}
use Rattle.mft.specs.Made.{IsMade}
use Rattle.mft.specs.Told.{IsOwn}
use Rattle.mft.specs.declared.layout.Layout.{Layout}
use Rattle.mft.specs.declared.ready.Ready.{Ready}

module _ {R : Type 0} (stands : R → Option ℕ) (left : R → Option (List ℕ)) where
  -- it is that of these that were fetched, of a record with these bytes where it is fixed up
  abbrev pub IsReadyOf : Layout → RecordNumber → List ℕ → List ℕ → Ready → List ℕ → List Fetched → Type 0
  IsReadyOf l n own t y b fs =
      IsOwn stands left l n own b fs × (y.lost.items ≡ lost_of fs)
      × ((m : ℕ) × IsMade l.size (raw_of fs) (numbers_of fs) n m (take y.length t))

  abbrev pub IsReady : Layout → RecordNumber → List ℕ → List ℕ → Ready → Type 0
  IsReady l n own t y = (y.length ≤ length t) × ((b : List ℕ) × ((fs : List Fetched) × IsReadyOf l n own t y b fs))
