-- What went and the lines to come are the report.
use Rattle.std.proofs.Common.{◌≡◌, length}
use Rattle.lines.specs.Went.{Went}
use Rattle.lines.specs.Ending.{said_last}
use Rattle.report.specs.Ending.{says, ending_of}
use Rattle.report.specs.Form.{lines_text}
use Rattle.report.specs.Rest.{rest}
use Rattle.report.proofs.write.write_lines.Given as goal

abbrev pub invariant-lines : goal.invariant-lines
invariant-lines g l = record {
  went : Went (g.W.Write.contents l.fn.out) (g.W.Write.contents l.out) (lines_text l.form (rest l.parts l.lines))
      (lines_text l.form (rest l.fn.parts l.fn.from));
  told : said_last says l.said (rest l.parts l.lines) ≡ ending_of (rest l.fn.parts l.fn.from);
  size : length l.text ≡ 512;
}

abbrev pub decreases-lines : goal.decreases-lines
decreases-lines g l = length (rest l.parts l.lines)
