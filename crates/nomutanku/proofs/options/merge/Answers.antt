-- Argument by argument.
use Rattle.std.proofs.Common.{rules, codes}
use Rattle.std.proofs.lemmas.Result.{IfOk-weaker}
use Rattle.clap.specs.Simple.{new_shape}
use Rattle.nomutanku.specs.CommandLine.{Is, leaf}
use Rattle.nomutanku.proofs.CommandLine.{with_arg}
use Rattle.nomutanku.proofs.options.merge.Goals as goal

pub returns : goal.returns
returns c =
    let new : Is (leaf (new_shape (codes "merge"))) c.after_help.result = search rules in
    let first = with_arg _ _ c.table.result _ _ new c.table.ensures c.in_ok-arg.ensures in
    let second = with_arg _ _ c.word.result _ _ first c.word.ensures c.in_ok-arg-2.ensures in
    IfOk-weaker c.arg-3.result _ _ (λ new. with_arg _ new c.word-2.result _ _ second c.word-2.ensures) c.arg-3.ensures
