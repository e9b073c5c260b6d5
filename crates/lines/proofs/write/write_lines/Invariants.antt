-- What went, what stands in the page, and the lines to come are the listing.
use Rattle.std.proofs.Common.{◌≡◌, ◌≤◌, ◌++◌, length, take}
use Rattle.lines.specs.Line.{lines_text}
use Rattle.lines.specs.Ending.{says, said_last, ending_of}
use Rattle.lines.specs.Rest.{rest}
use Rattle.lines.specs.Went.{Went}
use Rattle.lines.proofs.write.write_lines.Given as goal

abbrev pub invariant-lines : goal.invariant-lines
invariant-lines g l = record {
  went : Went (g.W.Write.contents l.fn.out) (g.W.Write.contents l.out)
      (take l.end l.page ++ lines_text (rest l.parts l.lines)) (lines_text (rest l.fn.parts l.fn.from));
  told : said_last says l.said (rest l.parts l.lines) ≡ ending_of (rest l.fn.parts l.fn.from);
  size : length l.page ≡ 8192;
  most : l.end ≤ 8192;
}

abbrev pub decreases-lines : goal.decreases-lines
decreases-lines g l = length (rest l.parts l.lines)
