-- What is asked of an input: the lines that answer it, and how much of it they take.
use Rattle.std.specs.Prelude.{ℕ, List, Some, None}
use Rattle.table.specs.Reach.{reach_of}
use Rattle.lines.specs.Listing.{most_parts}
use Rattle.report.specs.Listing.{table_report, numbered_report}
use Rattle.report.specs.Rows.{rows_report}
use Rattle.report.specs.Record.{record_report}
use Rattle.report.specs.declared.line.Line.{Line}
use Rattle.command.specs.declared.asked.Asked.{Asked}
use Rattle.command.specs.declared.asked.Asked.TheVariants.{Listing, Rows, Record}

-- the lines that answer it, of these bytes
unfoldable pub asked_lines : Asked → List ℕ → List Line
asked_lines (Listing None) t = table_report most_parts t
asked_lines (Listing (Some n)) t = numbered_report most_parts t n
asked_lines Rows t = rows_report t
asked_lines (Record n) t = record_report t n

-- as many bytes as tell that an input is longer than a record may be
abbrev pub record_reach : ℕ
record_reach = 4097

-- how many bytes must be there before nothing behind them matters, by those that are there
unfoldable pub reach_for : Asked → List ℕ → ℕ
reach_for (Listing wanted) t = reach_of t
reach_for Rows t = reach_of t
reach_for (Record n) t = record_reach
