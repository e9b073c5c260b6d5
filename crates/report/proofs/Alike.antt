-- What stands behind the bytes that an input's table takes changes no row.
use Rattle.std.proofs.Common.{ℕ, ◌≡◌, ◌≤◌, List, ◌++◌, length, refl, ap, ◌∙◌}
use Rattle.fields.specs.Answer.{Outcome, gives, refuses}
use Rattle.table.specs.Check.{table_of}
use Rattle.table.specs.Reach.{reach_of}
use Rattle.table.specs.Rows.{Filed}
use Rattle.table.specs.declared.check.TableHeader.{TableHeader}
use Rattle.table.proofs.Behind.{table_same, filed_same}
use Rattle.report.specs.Rows.{rows_behind, rows_lines, rows_report}
use Rattle.report.specs.Laws.{FrontsTell}

module _ (t r : List ℕ) (enough : reach_of t ≤ length t) where
  by_table : (c : Outcome TableHeader) → table_of t ≡ c → rows_lines (t ++ r) c ≡ rows_lines t c
  unfolding rows_lines
  by_table (gives h) p = ap (λ (fs : List Filed). rows_behind fs h.count) (filed_same t r enough h p)
  by_table (refuses x) p = refl

  same_rows : rows_report (t ++ r) ≡ rows_report t
  same_rows = ap (rows_lines (t ++ r)) (table_same t r enough) ∙ by_table (table_of t) refl

pub fronts_tell : FrontsTell
fronts_tell front more l = same_rows front more l
