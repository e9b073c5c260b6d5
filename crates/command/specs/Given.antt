-- Whether standard input is listed where nothing is named: a pipe or a file is, and where there is none the command
-- line is wrong.
use Rattle.std.specs.Prelude.{Bool, true, false}
use Rattle.command.specs.declared.given.Given.{Given}
use Rattle.command.specs.declared.given.Given.TheVariants.{Terminal, Pipe, File, Device, Closed}

abbrev pub is_listed : Given → Bool
is_listed Terminal = false
is_listed Pipe = true
is_listed File = true
is_listed Device = false
is_listed Closed = false
