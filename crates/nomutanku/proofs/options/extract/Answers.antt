-- Argument by argument.
use Rattle.std.proofs.Common.{rules, codes}
use Rattle.std.proofs.lemmas.Result.{IfOk-weaker}
use Rattle.clap.specs.Simple.{new_shape}
use Rattle.nomutanku.specs.CommandLine.{Is, leaf}
use Rattle.nomutanku.proofs.CommandLine.{with_arg}
use Rattle.nomutanku.proofs.options.extract.Goals as goal

pub returns : goal.returns
returns c =
    let new : Is (leaf (new_shape (codes "extract"))) c.after_help.result = search rules in
    let first = with_arg _ _ c.number-size.result _ _ new c.number-size.ensures c.in_ok-arg.ensures in
    let second = with_arg _ _ c.number-first.result _ _ first c.number-first.ensures c.in_ok-arg-2.ensures in
    let third = with_arg _ _ c.number-from.result _ _ second c.number-from.ensures c.in_ok-arg-3.ensures in
    let fourth = with_arg _ _ c.number-count.result _ _ third c.number-count.ensures c.in_ok-arg-4.ensures in
    let fifth = with_arg _ _ c.table.result _ _ fourth c.table.ensures c.in_ok-arg-5.ensures in
    IfOk-weaker c.arg-6.result _ _ (λ new. with_arg _ new c.file.result _ _ fifth c.file.ensures) c.arg-6.ensures
