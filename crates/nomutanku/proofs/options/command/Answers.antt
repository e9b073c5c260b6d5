-- Subcommand by subcommand.
use Rattle.std.proofs.lemmas.Result.{IfOk-weaker}
use Rattle.nomutanku.proofs.CommandLine.{with_sub}
use Rattle.nomutanku.proofs.options.command.Goals as goal

pub returns : goal.returns
returns c =
    let first = with_sub _ _ _ _ _ c.program.ensures c.in_ok-list.ensures c.in_ok-subcommand.ensures in
    let second = with_sub _ _ _ _ _ first c.in_ok-rows.ensures c.in_ok-subcommand-2.ensures in
    let third = with_sub _ _ _ _ _ second c.in_ok-one_record.ensures c.in_ok-subcommand-3.ensures in
    let fourth = with_sub _ _ _ _ _ third c.in_ok-extract.ensures c.in_ok-subcommand-4.ensures in
    let fifth = with_sub _ _ _ _ _ fourth c.in_ok-merge.ensures c.in_ok-subcommand-5.ensures in
    IfOk-weaker c.subcommand-6.result _ _ (λ new. with_sub _ new _ _ _ fifth c.in_ok-explain.ensures)
    c.subcommand-6.ensures
