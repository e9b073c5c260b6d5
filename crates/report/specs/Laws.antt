-- What holds of reports; src/laws.rt has the function whose contract this is.
use Rattle.std.specs.Prelude.{ℕ, ◌≡◌, ◌≤◌, List, ◌++◌, length}
use Rattle.table.specs.Reach.{reach_of}
use Rattle.report.specs.Rows.{rows_report}

-- what stands behind the bytes that an input's table takes (RULES 10) changes no row
abbrev pub FrontsTell : Type 0
FrontsTell = (front more : List ℕ) → reach_of front ≤ length front → rows_report (front ++ more) ≡ rows_report front
