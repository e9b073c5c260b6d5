-- What a report that is being made has still to give.
use Rattle.std.specs.Prelude.{◌≡◌, MatchOption, List, [], ◌∷◌, ◌++◌, map, Option, option_to_list}
use Rattle.table.specs.Rows as tables
use Rattle.record.specs.Rest as records
use Rattle.parts.specs.declared.Part.{Part}
use Rattle.lines.specs.Rest as listing
use Rattle.report.specs.Rows.{rows_behind}
use Rattle.report.specs.Record.{walk_lines}
use Rattle.report.specs.declared.line.Line.{Line}
use Rattle.report.specs.declared.line.Line.TheVariants as line
use Rattle.report.specs.declared.made.Source.{Source}
use Rattle.report.specs.declared.made.Source.TheVariants as source
use Rattle.report.specs.declared.made.Lines.{Lines}

-- with the parts of the last item of a listing, which stand in a lent list
abbrev pub source_rest : List Part → Source → List Line
source_rest ps source.Done = []
source_rest ps (source.Listing l) = map (λ x. line.Listed x) (listing.rest ps l)
source_rest ps (source.Rows i k) = rows_behind (tables.rest i) k
source_rest ps (source.Attributes r us i) =
    map (λ x. line.Listed x) (listing.runs_rest us) ++ walk_lines r.bytes.now r.number (records.rest i)

-- up to two first lines, and what the source gives
abbrev pub rest : List Part → Lines → List Line
rest ps l = option_to_list l.first ++ (option_to_list l.second ++ source_rest ps l.source)

-- a line and what comes behind it, or that none is to come, now and later
abbrev pub Gives : List Line → Option Line → List Line → Type 0
Gives ls r ms = MatchOption r ((ls ≡ []) × (ms ≡ [])) (λ x. ls ≡ x ∷ ms)
