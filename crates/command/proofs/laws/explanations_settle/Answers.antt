use Rattle.std.specs.Prelude.{ℕ, ◌==◌, ◌≡◌, List, [], ◌∷◌, Bool, true, false, cond, Some, find, IfSome}
use Rattle.std.proofs.Common.{refl, arith}
use Rattle.std.proofs.lemmas.Bool.Decides.{nat_tests}
use Rattle.fields.specs.Told.{number_of}
use Rattle.fields.specs.declared.Cause.{Cause}
use Rattle.fields.specs.declared.Cause.TheVariants.{RecordLength, NotFile, AttributeCut, AttributeShort}
use Rattle.fields.specs.declared.Cause.TheVariants.{AttributeLong, UnknownType, HeaderCut, NameOffset}
use Rattle.fields.specs.declared.Cause.TheVariants.{NameEnd, ValueOffset, ValueEnd, RunsOffset}
use Rattle.fields.specs.declared.Cause.TheVariants.{ListNotResident, EntryCut, EntryShort, EntryNameCut}
use Rattle.fields.specs.declared.Cause.TheVariants.{NoRecord, NoAttribute, PartResident, NoRoom}
use Rattle.fields.specs.declared.Cause.TheVariants.{BadTable, BadState, RunSize, RunCut, RunEmpty, RunRange}
use Rattle.fields.specs.declared.Cause.TheVariants.{UsedSize, AttributeStale, FixupArray, FixupPair}
use Rattle.fields.specs.declared.Cause.TheVariants.{EntryNameOutside, SizesDiffer, RecordsDiffer, TooManyRows}
use Rattle.fields.specs.declared.Cause.TheVariants.{OutputShort, RowNumber}
use Rattle.command.specs.Explain.{explained}
use Rattle.command.specs.declared.explain.TheConstants.{CAUSES}
use Rattle.command.proofs.laws.explanations_settle.Goals as goal

found : (c : Cause) → explained CAUSES (number_of c) ≡ Some c
found RecordLength = refl
found NotFile = refl
found AttributeCut = refl
found AttributeShort = refl
found AttributeLong = refl
found UnknownType = refl
found HeaderCut = refl
found NameOffset = refl
found NameEnd = refl
found ValueOffset = refl
found ValueEnd = refl
found RunsOffset = refl
found ListNotResident = refl
found EntryCut = refl
found EntryShort = refl
found EntryNameCut = refl
found NoRecord = refl
found NoAttribute = refl
found PartResident = refl
found NoRoom = refl
found BadTable = refl
found BadState = refl
found RunSize = refl
found RunCut = refl
found RunEmpty = refl
found RunRange = refl
found UsedSize = refl
found AttributeStale = refl
found FixupArray = refl
found FixupPair = refl
found EntryNameOutside = refl
found SizesDiffer = refl
found RecordsDiffer = refl
found TooManyRows = refl
found OutputShort = refl
found RowNumber = refl

-- what is found passed the test
same : (n m : ℕ) → (m == n) ≡ true → m ≡ n
same n m e = grind (arith, nat_tests)

tested : (n : ℕ) (c : Cause) (cs : List Cause) (b : Bool) → (number_of c == n) ≡ b
    → IfSome (find (λ d. number_of d == n) cs) (λ d. number_of d ≡ n)
    → IfSome (cond b (Some c) (find (λ d. number_of d == n) cs)) (λ d. number_of d ≡ n)
tested n c cs true e h = same n (number_of c) e
tested n c cs false e h = h

passes : (n : ℕ) (cs : List Cause) → IfSome (explained cs n) (λ d. number_of d ≡ n)
passes n [] = tt
passes n (c ∷ cs) = tested n c cs (number_of c == n) refl (passes n cs)

pub returns-clause-found : goal.returns-clause-found
returns-clause-found c = found

pub returns-clause-number : goal.returns-clause-number
returns-clause-number c = λ n. passes n CAUSES
