-- What is told of one record of an extract, in the words of the definition.
use Rattle.std.specs.Prelude.{ℕ, List, ltb, Option, Some, None}
use Rattle.fields.specs.Pick.{pick}
use Rattle.extract.specs.Fixup.{Verdict, left_out, refused, sound, fixed_up}
use Rattle.extract.specs.Records.{record_count, verdict_at}
use Rattle.extract.specs.declared.Extract.{Extract}
use Rattle.extract.specs.declared.fixup.Judged.{Judged}
use Rattle.extract.specs.declared.fixup.Judged.TheVariants as judged

-- what becomes of a record by the word of the function that judges it
abbrev pub told_verdict : List ℕ → Judged → Verdict
told_verdict s judged.LeftOut = left_out
told_verdict s (judged.Refused c) = refused c
told_verdict s judged.Sound = sound (fixed_up s)

-- what becomes of the record at a position; past the last there is none
abbrev pub judged_at : Extract → ℕ → Option Verdict
judged_at x i = pick (ltb i (record_count x)) (Some (verdict_at x i)) None
