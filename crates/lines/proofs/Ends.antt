-- Whether lines are to come: a walk has one more at least.
use Rattle.std.proofs.Common.{ℕ, zero, suc, ◌≡◌, ◌<◌, List, ◌++◌, false, length, take, drop, refl, ap, ◌∙◌, arith}
use Rattle.std.proofs.Common.{[], ◌∷◌, append_assoc}
use Rattle.std.specs.Prelude.{Option, Some}
use Rattle.fields.specs.Answer.{Answer, gives, ends as ended, refuses}
use Rattle.fields.specs.declared.RecordNumber.{RecordNumber}
use Rattle.items.specs.declared.walk.Item.{Item}
use Rattle.items.specs.declared.walk.State.{State}
use Rattle.parts.specs.declared.Part.{Part}
use Rattle.lines.specs.declared.line.Line.{Line}
use Rattle.lines.specs.Listing.{lines_after, lines_run}
use Rattle.lines.specs.Rest.{walk_rest, runs_rest, parts_in, run_in}
use Rattle.lines.specs.Page.{none}
use Rattle.lines.specs.declared.walk.Walk.{Walk}

module _ (room : ℕ) (s : List ℕ) (n : RecordNumber) (look : RecordNumber → Option (List ℕ)) where
  some_after : (on : ℕ → State → List Line) (k : ℕ) (w : State) (a : Answer Item) (ls : List Line)
      → none (lines_after room s n look on k w a ++ ls) ≡ false
  some_after on k w (gives i) ls = refl
  some_after on k w ended ls = refl
  some_after on k w (refuses r) ls = refl

  some_run : (m f k : ℕ) (w : State) (ls : List Line) → m < f → none (lines_run room s n look f k w ++ ls) ≡ false
  unfolding lines_run
  some_run m zero k w ls l = absurd (omega arith)
  some_run m (suc f) k w ls l = some_after (lines_run room s n look f) _ _ _ ls

behind : (xs ys : List Line) → none ys ≡ false → none (xs ++ ys) ≡ false
behind [] ys e = e
behind (x ∷ xs) ys e = refl

pub some_walk : (ps : List Part) (o : Option Walk) (w : Walk) (ls : List Line) → o ≡ Some w
    → none (walk_rest ps o ++ ls) ≡ false
some_walk ps o w ls e =
    let walked = run_in (length ps) w.file w.calls w.reads w.state in
    let shown = parts_in w.file (drop w.shown (take w.count ps)) in
    let run : none (walked ++ ls) ≡ false = some_run (length ps) _ _ _ _ w.calls w.reads w.state ls w.less in
    ap (λ (x : Option Walk). none (walk_rest ps x ++ ls)) e
    ∙ rw (append_assoc (runs_rest w.runs) (shown ++ walked) ls, append_assoc shown walked ls)
    (behind (runs_rest w.runs) _ (behind shown _ run))

pub ruleset ends = (some_walk)
