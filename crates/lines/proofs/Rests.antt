-- The parts that are not shown yet: the next one and the others, or none.
use Rattle.std.proofs.Common.{
  ℕ,
  ◌≡◌,
  ◌<◌,
  ◌≤◌,
  ◌+◌,
  List,
  [],
  ◌∷◌,
  ◌++◌,
  append_assoc,
  length,
  take,
  drop,
  get_or,
  ap,
  ◌∙◌,
  arith,
  length-take,
}
use Rattle.std.proofs.lemmas.List.{drop_more, drop_all, get_or-take}
use Rattle.table.specs.Held.{record_of}
use Rattle.items.specs.Lookup.{lookup_of}
use Rattle.items.specs.declared.File.{File}
use Rattle.parts.specs.declared.Part.{Part}
use Rattle.lines.specs.Runs.{run_lines}
use Rattle.lines.specs.Rest.{parts_in}
use Rattle.lines.specs.declared.line.Line.{Line}
use Rattle.lines.specs.declared.line.Line.TheVariants as line

pub no_part : (ps : List Part) (k n : ℕ) → n ≤ k → drop k (take n ps) ≡ []
no_part ps k n l = drop_all k (take n ps) (omega (arith, length-take n ps))

pub next_part : (ps : List Part) (k n : ℕ) (d : Part) → k < n → k < length ps
    → drop k (take n ps) ≡ get_or ps k d ∷ drop (k + 1) (take n ps)
next_part ps k n d l m =
    drop_more (take n ps) k d (omega (arith, length-take n ps))
    ∙ ap (λ (p : Part). p ∷ drop (k + 1) (take n ps)) (get_or-take n ps k d l)

-- the next one's line, its runs, and what comes behind them
pub shown_next : (x : File) (ps : List Part) (k n : ℕ) (d : Part) (runs more : List Line) → k < n → k < length ps
    → runs ≡ run_lines (lookup_of x.base.bytes.now x.base.number (record_of x.table.bytes.now) (get_or ps k d).file 0)
    (get_or ps k d).runs
    → parts_in x (drop k (take n ps)) ++ more
    ≡ line.Part (get_or ps k d) ∷ (runs ++ (parts_in x (drop (k + 1) (take n ps)) ++ more))
shown_next x ps k n d runs more l m e =
    ap (λ (ys : List Part). parts_in x ys ++ more) (next_part ps k n d l m)
    ∙ rw e (append_assoc (line.Part (get_or ps k d) ∷ run_lines _ _) (parts_in x (drop (k + 1) (take n ps))) more)

pub past_part : (ps : List Part) (k n : ℕ) → length ps ≤ k → drop k (take n ps) ≡ []
past_part ps k n l = drop_all k (take n ps) (omega (arith, length-take n ps))

pub ruleset rests = (no_part, past_part, next_part)
