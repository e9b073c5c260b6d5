-- Argument by argument.
use Rattle.std.proofs.Common.{rules, codes}
use Rattle.std.proofs.lemmas.Result.{IfOk-weaker}
use Rattle.clap.specs.Simple.{new_shape}
use Rattle.nomutanku.specs.CommandLine.{Is, leaf}
use Rattle.nomutanku.proofs.CommandLine.{with_arg}
use Rattle.nomutanku.proofs.options.one_record.Goals as goal

pub returns : goal.returns
returns c =
    let new : Is (leaf (new_shape (codes "record"))) c.after_help.result = search rules in
    let first = with_arg _ _ c.number-number.result _ _ new c.number-number.ensures c.in_ok-arg.ensures in
    let second = with_arg _ _ c.flag.result _ _ first c.flag.ensures c.in_ok-arg-2.ensures in
    IfOk-weaker c.arg-3.result _ _ (λ new. with_arg _ new c.file-file.result _ _ second c.file-file.ensures)
    c.arg-3.ensures
