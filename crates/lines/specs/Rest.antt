-- What a listing that is being made has still to give.
use Rattle.std.specs.Prelude.{ℕ, ◌≡◌, MatchOption, List, [], ◌∷◌, ◌++◌, map, flat_map, take, drop, length}
use Rattle.std.specs.Prelude.{Option, None, Some, option_to_list}
use Rattle.table.specs.Held.{record_of}
use Rattle.items.specs.declared.File.{File}
use Rattle.items.specs.declared.walk.State.{State}
use Rattle.parts.specs.declared.Part.{Part}
use Rattle.runs.specs.Rest as runs
use Rattle.runs.specs.declared.iterate.Runs.{Runs}
use Rattle.lines.specs.Runs.{run_line}
use Rattle.lines.specs.Listing.{lines_run, part_lines}
use Rattle.lines.specs.declared.line.Line.{Line}
use Rattle.lines.specs.declared.walk.Walk.{Walk}
use Rattle.lines.specs.declared.Lines.{Lines}

-- the lines of at most f calls of a file's walk, after k reads
abbrev pub run_in : ℕ → File → ℕ → ℕ → State → List Line
run_in room x f k w = lines_run room x.base.bytes.now x.base.number (record_of x.table.bytes.now) f k w

-- the lines of some parts of a file, with their runs
abbrev pub parts_in : File → List Part → List Line
parts_in x ps = flat_map (part_lines x.base.bytes.now x.base.number (record_of x.table.bytes.now)) ps

-- the runs under the line before
abbrev pub runs_rest : Option Runs → List Line
runs_rest None = []
runs_rest (Some i) = map run_line (runs.rest i)

-- those; the parts of the item before that are not shown yet, which stand in a lent list; and what the walk gives
abbrev pub walk_rest : List Part → Option Walk → List Line
walk_rest ps None = []
walk_rest ps (Some w) = runs_rest w.runs ++ (parts_in w.file (drop w.shown (take w.count ps))
    ++ run_in (length ps) w.file w.calls w.reads w.state)

-- a first line, a walk, and a last line
abbrev pub rest : List Part → Lines → List Line
rest ps l = option_to_list l.first ++ (walk_rest ps l.walk ++ option_to_list l.last)

-- what a call gives: a line, and what comes behind it; or that none is to come, now and later
abbrev pub Gives : List Part → Lines → Option Line → List Part → Lines → Type 0
Gives ps l r qs m =
    MatchOption r ((rest ps l ≡ []) × (rest qs m ≡ [])) (λ x. rest ps l ≡ x ∷ rest qs m)
