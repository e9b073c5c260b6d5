-- Those that were wanted so far are gathered.
use Rattle.std.specs.Prelude.{◌≤◌, length, take}
use Rattle.references.specs.Shown.{shown_rising}
use Rattle.mft.specs.Gathered.{Gathers}
use Rattle.mft.proofs.gather.gather.Given as goal

abbrev pub invariant-loop-i : goal.invariant-loop-i
invariant-loop-i g l = record {
  gathered : Gathers g.R.Seek.stream_position g.R.Read.remaining l.layout l.own.number l.own.raw.now
      (take l.i (shown_rising l.wanted)) l.raw l.gathered.numbers.items l.gathered.lost.items;
  few : length l.gathered.numbers.items ≤ l.i;
}
