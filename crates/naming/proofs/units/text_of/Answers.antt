use Rattle.std.proofs.Common.{rules}
use Rattle.naming.specs.Units.{name_chars}
use Rattle.naming.proofs.Read.{chars_by}
use Rattle.naming.proofs.units.text_of.Goals as goal

pub returns : goal.returns
returns c = chars_by c.from_utf16_lossy.result (name_chars c.args.name.now) (search rules)
