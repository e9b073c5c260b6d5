use Rattle.std.proofs.Common.{ℕ, ◌≡◌, List, length, ap, arith, ◌∙◌}
use Rattle.fields.specs.Answer.{gives}
use Rattle.table.specs.Check.{table_of}
use Rattle.table.specs.Held.{Held, held_of, record_in, record_of, base_of}
use Rattle.table.specs.declared.check.TableHeader.{TableHeader}
use Rattle.written.specs.Laws.{Fit, numbers_of}
use Rattle.written.proofs.Tables.{header_back, table_passes, table_holds}
use Rattle.extract.specs.Records.{record_count, number_at, rows_of}
use Rattle.extract.specs.Extracted.{extract_of}
use Rattle.extract.specs.Base.{base_in}
use Rattle.extract.specs.Laws.{table_by, base_by}
use Rattle.extract.specs.declared.Extract.{Extract}
use Rattle.extract.specs.declared.tally.Extracted.{Extracted}
use Rattle.extract.proofs.Fits.{reported, fit}
use Rattle.extract.proofs.Finds.{found_below, other_below}
use Rattle.extract.proofs.Bases.{base_told}
use Rattle.extract.proofs.laws.extracts_are_held.Goals as goal

module _ (x : Extract) (m : ℕ) (r : Extracted) (rest : List ℕ) (e : extract_of x m ≡ gives r) where
  abbrev base : ℕ
  base = base_in x.base (rows_of x)

  counted : length (rows_of x) ≡ r.written
  counted = ap (λ (y : Extracted). y.written) (reported x m r e).is

  fits : Fit x.size base (rows_of x)
  fits = fit x r (reported x m r e)

  passes : table_of (table_by x rest) ≡ gives (numbers_of x.size base r.written)
  passes = table_passes x.size base (rows_of x) rest fits ∙ ap (λ (k : ℕ). gives (numbers_of x.size base k)) counted

  holds : held_of (table_by x rest) ≡ rows_of x
  holds = table_holds x.size base (rows_of x) rest fits

  bases : base_of (table_by x rest) ≡ base_by x.base (table_by x rest)
  bases =
      let h = header_back x.size base (rows_of x) rest fits in
      base_told x.base (table_by x rest) (rows_of x) holds (ap (λ (n : TableHeader). n.count) h)
      (ap (λ (n : TableHeader). n.base) h)

pub returns-clause-pass : goal.returns-clause-pass
returns-clause-pass c = λ x m r rest e. (passes x m r rest e, holds x m r rest e)

pub returns-clause-found : goal.returns-clause-found
unfolding record_of
returns-clause-found c = λ x m r rest e i l.
    ap (λ (rows : List Held). record_in rows (number_at x i)) (holds x m r rest e)
    ∙ found_below x (record_count x) i l (omega arith)

pub returns-clause-others : goal.returns-clause-others
unfolding record_of
returns-clause-others c = λ x m r rest e n o.
    ap (λ (rows : List Held). record_in rows n) (holds x m r rest e) ∙ other_below x (record_count x) n o

pub returns-clause-bases : goal.returns-clause-bases
returns-clause-bases c = λ x m r rest e. bases x m r rest e
