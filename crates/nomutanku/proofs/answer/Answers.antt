-- By the kinds of error that clap has for the words.
use Rattle.std.proofs.Common.{map, string_bytes}
use Rattle.nomutanku.proofs.Words.{refused, taken}
use Rattle.nomutanku.proofs.answer.Goals as goal

pub returns-in-Ok : goal.returns-in-Ok
returns-in-Ok g c =
    taken c.in_ok-command.field-0 (map string_bytes c.args.words.now) c.obey.result c.in_ok-command.ensures
    c.in-Ok.ensures.kinds

pub returns-in-Err : goal.returns-in-Err
returns-in-Err g c =
    refused c.in_ok-command.field-0 (map string_bytes c.args.words.now) c.in-Err.error c.tell.result
    c.in_ok-command.ensures c.in-Err.ensures.kinds c.tell.ensures
