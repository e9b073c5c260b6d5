use Rattle.std.proofs.Common.{ℕ, ◌+◌, ◌≡◌, length, ap, subst, ◌∙◌, length-append}
use Rattle.written.proofs.Tables.{table_long}
use Rattle.extract.specs.Records.{record_count, rows_of}
use Rattle.extract.specs.Base.{base_in}
use Rattle.extract.specs.Extracted.{table_of_extract}
use Rattle.extract.specs.declared.Extract.{Extract}
use Rattle.extract.specs.declared.tally.Extracted.{Extracted}
use Rattle.extract.proofs.Fits.{Reported, reported, fit}
use Rattle.extract.proofs.Counts.{counts_below}
use Rattle.extract.proofs.laws.reports_add_up.Goals as goal

pub returns-clause-counts : goal.returns-clause-counts
returns-clause-counts c = λ x m r rest e.
    subst (λ (y : Extracted). y.written + y.left_out + y.refused ≡ record_count x) (reported x m r e).is
    (counts_below x (record_count x))

told : (x : Extract) (r : Extracted) → Reported x r → length (table_of_extract x) ≡ r.length
told x r s =
    table_long x.size (base_in x.base (rows_of x)) (rows_of x) (fit x r s).long ∙ ap (λ (y : Extracted). y.length) s.is

pub returns-clause-lengths : goal.returns-clause-lengths
returns-clause-lengths c = λ x m r rest e.
    length-append (table_of_extract x) rest ∙ ap (λ (k : ℕ). k + length rest) (told x r (reported x m r e))
