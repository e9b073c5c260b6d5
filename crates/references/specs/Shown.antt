-- What this crate's calls hand out, in the words of the definition.
use Rattle.std.specs.Prelude.{List, take}
use Rattle.fields.specs.Told.{told}
use Rattle.fields.specs.declared.RecordNumber.{RecordNumber}
use Rattle.references.specs.References.{Told, tells}
use Rattle.references.specs.declared.References.{References}
use Rattle.references.specs.declared.Rising.{Rising}

-- the numbers that were told
abbrev pub so_far : References → List RecordNumber
so_far r = take r.count r.numbers

abbrev pub shown : References → Told
shown r = tells (so_far r) (told r.answer)

abbrev pub shown_rising : Rising → List RecordNumber
shown_rising r = take r.count r.numbers
