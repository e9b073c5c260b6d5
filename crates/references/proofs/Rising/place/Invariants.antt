-- The numbers passed are no larger, so that the number goes behind them.
use Rattle.std.proofs.Common.{◌≡◌, ◌-◌, ◌≤◌, ◌++◌, take, drop}
use Rattle.references.specs.Rising.{placed}
use Rattle.references.specs.Shown.{shown_rising}
use Rattle.references.proofs.Rising.place.Given as goal

abbrev pub invariant-loop-at : goal.invariant-loop-at
invariant-loop-at l = record {
  reach : l.at ≤ l.self.count;
  same : placed l.number (shown_rising l.self)
      ≡ take l.at (shown_rising l.self) ++ placed l.number (drop l.at (shown_rising l.self));
}

abbrev pub decreases-loop-at : goal.decreases-loop-at
decreases-loop-at l = l.self.count - l.at
