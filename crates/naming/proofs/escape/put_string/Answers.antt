use Rattle.std.specs.Str.{chars}
use Rattle.std.specs.String.{string_bytes}
use Rattle.std.proofs.lemmas.Iterator.{YieldsList-from_chars}
use Rattle.std.proofs.lemmas.Iterator.Consumers.{YieldsList-end}
use Rattle.naming.specs.Shown.{string_char}
use Rattle.naming.proofs.Put.{put_more, put_all}
use Rattle.naming.proofs.escape.put_string.Goals as goal

pub loop-character-preserved : goal.loop-character-preserved
loop-character-preserved c =
    put_more string_char (string_bytes c.args.line.now) (string_bytes c.loop-character.line) c.loop-character.yielded
    c.in-Some.character _ c.loop-character.invariant c.in_ok-put_string_char.ensures

pub returns : goal.returns
returns c =
    let t =
    YieldsList-end (YieldsList-from_chars c.args.text.now c.utf8.text cc) c.loop-character.yielded _
    c.loop-character.yielded_by _ _ c.in-None.is c.next.ensures.steps in
    put_all string_char (string_bytes c.args.line.now) (string_bytes c.loop-character.line) c.loop-character.yielded
    (chars c.args.text.now) t.0 c.loop-character.invariant
