-- RULES 2, 19: the number of each cause, and what a call's result says as an answer.
use Rattle.std.specs.Prelude.{ℕ, Option, Some, None, Result, Ok, Err}
use Rattle.fields.specs.Answer.{Outcome, Answer, gives, ends, refuses, Report, report}
use Rattle.fields.specs.declared.Refusal.{Refusal}
use Rattle.fields.specs.declared.Counted.{Counted}
use Rattle.fields.specs.declared.Cause.{Cause}
use Rattle.fields.specs.declared.Cause.TheVariants.{RecordLength, NotFile, AttributeCut, AttributeShort}
use Rattle.fields.specs.declared.Cause.TheVariants.{AttributeLong, UnknownType, HeaderCut, NameOffset}
use Rattle.fields.specs.declared.Cause.TheVariants.{NameEnd, ValueOffset, ValueEnd, RunsOffset}
use Rattle.fields.specs.declared.Cause.TheVariants.{ListNotResident, EntryCut, EntryShort, EntryNameCut}
use Rattle.fields.specs.declared.Cause.TheVariants.{NoRecord, NoAttribute, PartResident, NoRoom}
use Rattle.fields.specs.declared.Cause.TheVariants.{BadTable, BadState, RunSize, RunCut, RunEmpty, RunRange}
use Rattle.fields.specs.declared.Cause.TheVariants.{UsedSize, AttributeStale, FixupArray, FixupPair}
use Rattle.fields.specs.declared.Cause.TheVariants.{EntryNameOutside, SizesDiffer, RecordsDiffer, TooManyRows}
use Rattle.fields.specs.declared.Cause.TheVariants.{OutputShort, RowNumber}

abbrev pub number_of : Cause → ℕ
number_of RecordLength = 1
number_of NotFile = 2
number_of AttributeCut = 3
number_of AttributeShort = 4
number_of AttributeLong = 5
number_of UnknownType = 6
number_of HeaderCut = 7
number_of NameOffset = 8
number_of NameEnd = 9
number_of ValueOffset = 10
number_of ValueEnd = 11
number_of RunsOffset = 12
number_of ListNotResident = 13
number_of EntryCut = 14
number_of EntryShort = 15
number_of EntryNameCut = 16
number_of NoRecord = 17
number_of NoAttribute = 18
number_of PartResident = 19
number_of NoRoom = 20
number_of BadTable = 21
number_of BadState = 22
number_of RunSize = 23
number_of RunCut = 24
number_of RunEmpty = 25
number_of RunRange = 26
number_of UsedSize = 27
number_of AttributeStale = 28
number_of FixupArray = 29
number_of FixupPair = 30
number_of EntryNameOutside = 31
number_of SizesDiffer = 32
number_of RecordsDiffer = 33
number_of TooManyRows = 34
number_of OutputShort = 35
number_of RowNumber = 44

-- what a call says that gives a value or refuses
abbrev pub told : {A : Type 0} → Result A Refusal → Outcome A
told (Ok x) = gives x
told (Err r) = refuses r

-- the same, of what is told of the value
abbrev pub told_as : {A B : Type 0} → (A → B) → Result A Refusal → Outcome B
told_as f (Ok x) = gives (f x)
told_as f (Err r) = refuses r

-- what a call says that may end too
abbrev pub told_step : {A : Type 0} → Result (Option A) Refusal → Answer A
told_step (Ok (Some x)) = gives x
told_step (Ok None) = ends
told_step (Err r) = refuses r

-- what a call says that reports its count
abbrev pub told_report : {A : Type 0} → Counted A → Report A
told_report c = report (told c.answer) c.reads
