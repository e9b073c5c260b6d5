use Rattle.std.proofs.Common.{◌≡◌, length}
use Rattle.written.specs.Stands.{Stands}
use Rattle.extract.specs.Records.{rows_below}
use Rattle.extract.proofs.Extract.fill.Given as goal

abbrev pub invariant-loop-i : goal.invariant-loop-i
invariant-loop-i l = record {
  row : l.row ≡ length (rows_below l.self l.i);
  stands : Stands l.shape.size l.shape.base l.shape.count (rows_below l.self l.i) l.fn.table l.table;
}
