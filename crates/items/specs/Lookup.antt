-- RULES 11: a number is looked up in the base record, where it is the base's own, else in the table. The record must
-- pass checks 2 and 27.
use Rattle.std.specs.Prelude.{ℕ, List, eqb, Option, Some, None}
use Rattle.fields.specs.Pick.{pick}
use Rattle.fields.specs.Answer.{Outcome, refuses, refusal}
use Rattle.fields.specs.declared.RecordNumber.{RecordNumber}
use Rattle.fields.specs.declared.Refusal.{Refusal}
use Rattle.fields.specs.declared.Cause.TheVariants.{NoRecord}
use Rattle.record.specs.Open.{Lent, check_file}

-- 2 and 27 in the record found; 17 where there is none
unfoldable pub opened_as : RecordNumber → Refusal → Option (List ℕ) → Outcome Lent
opened_as wanted miss None = refuses miss
opened_as wanted miss (Some s) = check_file s wanted

-- the base record hides the table's of the same number
unfoldable pub held_by : List ℕ → RecordNumber → (RecordNumber → Option (List ℕ)) → RecordNumber → Option (List ℕ)
held_by base n look wanted = pick (eqb wanted.0 n.0) (Some base) (look wanted)

-- the 17 is blamed on a place of the base record
unfoldable pub lookup_of : List ℕ → RecordNumber → (RecordNumber → Option (List ℕ)) → RecordNumber → ℕ → Outcome Lent
lookup_of base n look wanted place = opened_as wanted (refusal NoRecord n place) (held_by base n look wanted)
