-- What is reported of an extract, as a line: `written W left L refused R`; and of two tables that were made one:
-- `written W`.
use Rattle.std.specs.Prelude.{ℕ, List, [], ◌∷◌, ◌++◌}
use Rattle.text.specs.Decimal.{words}
use Rattle.extract.specs.declared.tally.Extracted.{Extracted}
use Rattle.merge.specs.declared.Merged.{Merged}

abbrev pub counts_text : Extracted → List ℕ
counts_text x = words "written" (x.written ∷ []) ++ words " left" (x.left_out ∷ []) ++ words " refused" (x.refused ∷ [])

abbrev pub written_text : Merged → List ℕ
written_text m = words "written" (m.written ∷ [])
