-- Argument by argument.
use Rattle.std.proofs.lemmas.Result.{IfOk-weaker}
use Rattle.nomutanku.proofs.CommandLine.{with_arg}
use Rattle.nomutanku.proofs.options.list.Goals as goal

pub returns : goal.returns
returns c =
    let first = with_arg _ _ c.number-base.result _ _ c.listing.ensures c.number-base.ensures c.in_ok-arg.ensures in
    let second = with_arg _ _ c.text.result _ _ first c.text.ensures c.in_ok-arg-2.ensures in
    let third = with_arg _ _ c.number-size.result _ _ second c.number-size.ensures c.in_ok-arg-3.ensures in
    let fourth = with_arg _ _ c.number-first.result _ _ third c.number-first.ensures c.in_ok-arg-4.ensures in
    let fifth = with_arg _ _ c.flag.result _ _ fourth c.flag.ensures c.in_ok-arg-5.ensures in
    let sixth = with_arg _ _ c.text-2.result _ _ fifth c.text-2.ensures c.in_ok-arg-6.ensures in
    let seventh = with_arg _ _ c.flag-2.result _ _ sixth c.flag-2.ensures c.in_ok-arg-7.ensures in
    let eighth = with_arg _ _ c.flag-3.result _ _ seventh c.flag-3.ensures c.in_ok-arg-8.ensures in
    let ninth = with_arg _ _ c.flag-4.result _ _ eighth c.flag-4.ensures c.in_ok-arg-9.ensures in
    IfOk-weaker c.arg-10.result _ _ (λ new. with_arg _ new c.tables.result _ _ ninth c.tables.ensures) c.arg-10.ensures
