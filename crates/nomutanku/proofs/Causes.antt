-- No cause has a number that takes more than a byte.
use Rattle.std.proofs.Common.{ℕ, ◌≡◌, ◌<◌, List, [], ◌∷◌, None, refl, arith}
use Rattle.std.specs.Prelude.{◌==◌, false}
use Rattle.std.proofs.lemmas.Bool.{ne_eqb}
use Rattle.fields.specs.Told.{number_of}
use Rattle.fields.specs.declared.Cause.{Cause}
use Rattle.fields.specs.declared.Cause.TheVariants.{RecordLength, NotFile, AttributeCut, AttributeShort}
use Rattle.fields.specs.declared.Cause.TheVariants.{AttributeLong, UnknownType, HeaderCut, NameOffset}
use Rattle.fields.specs.declared.Cause.TheVariants.{NameEnd, ValueOffset, ValueEnd, RunsOffset}
use Rattle.fields.specs.declared.Cause.TheVariants.{ListNotResident, EntryCut, EntryShort, EntryNameCut}
use Rattle.fields.specs.declared.Cause.TheVariants.{NoRecord, NoAttribute, PartResident, NoRoom}
use Rattle.fields.specs.declared.Cause.TheVariants.{BadTable, BadState, RunSize, RunCut, RunEmpty, RunRange}
use Rattle.fields.specs.declared.Cause.TheVariants.{UsedSize, AttributeStale, FixupArray, FixupPair}
use Rattle.fields.specs.declared.Cause.TheVariants.{EntryNameOutside, SizesDiffer, RecordsDiffer, TooManyRows}
use Rattle.fields.specs.declared.Cause.TheVariants.{OutputShort, RowNumber}
use Rattle.command.specs.Explain.{explained}
use Rattle.command.specs.declared.explain.TheConstants.{CAUSES}

small : (c : Cause) → number_of c < 256
small RecordLength = omega arith
small NotFile = omega arith
small AttributeCut = omega arith
small AttributeShort = omega arith
small AttributeLong = omega arith
small UnknownType = omega arith
small HeaderCut = omega arith
small NameOffset = omega arith
small NameEnd = omega arith
small ValueOffset = omega arith
small ValueEnd = omega arith
small RunsOffset = omega arith
small ListNotResident = omega arith
small EntryCut = omega arith
small EntryShort = omega arith
small EntryNameCut = omega arith
small NoRecord = omega arith
small NoAttribute = omega arith
small PartResident = omega arith
small NoRoom = omega arith
small BadTable = omega arith
small BadState = omega arith
small RunSize = omega arith
small RunCut = omega arith
small RunEmpty = omega arith
small RunRange = omega arith
small UsedSize = omega arith
small AttributeStale = omega arith
small FixupArray = omega arith
small FixupPair = omega arith
small EntryNameOutside = omega arith
small SizesDiffer = omega arith
small RecordsDiffer = omega arith
small TooManyRows = omega arith
small OutputShort = omega arith
small RowNumber = omega arith

none_in : (n : ℕ) → 255 < n → (cs : List Cause) → explained cs n ≡ None
none_in n more [] = refl
none_in n more (c ∷ cs) =
    let small_c = small c in
    let other : (number_of c == n) ≡ false = ne_eqb _ _ (λ e. omega arith) in
    rw other (none_in n more cs)

pub none_past : (n : ℕ) → 255 < n → explained CAUSES n ≡ None
none_past n more = none_in n more CAUSES
