use Rattle.std.proofs.Common.{◌∙◌, rules}
use Rattle.runs.proofs.Numbers.{padded}
use Rattle.runs.proofs.number.number_at.Goals as goal

pub returns : goal.returns
returns c = c.u64_at.ensures ∙ padded c.args.width c.args.at c.args.s.now c.copy_from_slice.new.self
    c.requires.narrow c.requires.there (search rules)
