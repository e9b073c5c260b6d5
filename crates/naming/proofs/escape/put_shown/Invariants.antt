-- As many characters are put as the loop has passed.
use Rattle.std.specs.Prelude.{◌≡◌, ◌++◌}
use Rattle.std.specs.Str.{encode_utf8_all}
use Rattle.std.specs.String.{string_bytes}
use Rattle.naming.specs.Shown.{shown_of}
use Rattle.naming.proofs.escape.put_shown.Given as goal

abbrev pub invariant-loop-character : goal.invariant-loop-character
invariant-loop-character l =
    string_bytes l.line ≡ string_bytes l.fn.line ++ encode_utf8_all (shown_of l.yielded)
