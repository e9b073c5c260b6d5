-- What a raw record is where every base record in use is listed.
use Rattle.std.specs.Prelude.{ℕ, List}
use Rattle.fields.specs.Pick.{pick}
use Rattle.fields.specs.Answer.{Outcome, gives, refuses}
use Rattle.fields.specs.declared.Cause.{Cause}
use Rattle.fields.specs.declared.RecordNumber.{RecordNumber}
use Rattle.record.specs.Open.{Lent, open_of}
use Rattle.extract.specs.Fixup.{Verdict, left_out, refused, sound, verdict_of}
use Rattle.segments.specs.Base.{is_base_in_use}

-- RULES 25.2: a raw record is passed over; or it is refused, when it is fixed up (23.4, 23.5) or opened (3); or it is a
-- base record in use, with these bytes
pub data Kind : Type 0 where
  passed : Kind
  broken : Cause → Kind
  base : List ℕ → Kind

abbrev pub opened_kind : List ℕ → Outcome Lent → Kind
opened_kind b (gives r) = pick (is_base_in_use b) (base b) passed
opened_kind b (refuses r) = broken r.cause

abbrev pub kind_by : RecordNumber → Verdict → Kind
kind_by n left_out = passed
kind_by n (refused c) = broken c
kind_by n (sound b) = opened_kind b (open_of b n)

abbrev pub kind_of : List ℕ → RecordNumber → Kind
kind_of own n = kind_by n (verdict_of own)
