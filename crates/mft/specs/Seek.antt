-- RULES 26.4: what is known of a name that a record's file may have.
use Rattle.std.specs.Prelude.{ℕ, List, Option}
use Rattle.fields.specs.Answer.{Outcome, gives, refuses}
use Rattle.fields.specs.declared.RecordNumber.{RecordNumber}
use Rattle.record.specs.Open.{Lent}
use Rattle.filename.specs.Names.{found_of}
use Rattle.filename.specs.declared.find.Found.{Found}
use Rattle.filename.specs.declared.find.Found.TheVariants.{Unknown}

-- what is known of a name, by what is looked up, of a record that opens, or is refused
abbrev pub found_in : (RecordNumber → Option (List ℕ)) → List ℕ → Outcome Lent → Found
found_in peek name (gives r) = found_of r.bytes r.number peek name
found_in peek name (refuses r) = Unknown r
