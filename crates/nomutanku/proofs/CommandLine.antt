-- What is added to a command is added to what it is read as.
use Rattle.std.proofs.Common.{◌∙◌, ap, ap₂, Bool, ◌||◌}
use Rattle.clap.specs.Words.{App, Rule, Shape, AddsArg, AddsSubcommand, with_rule, with_subcommand}
use Rattle.clap.specs.declared.builder.arg.Arg.{Arg}
use Rattle.clap.specs.declared.builder.command.Command.{Command}
use Rattle.nomutanku.specs.CommandLine.{IsRead, Is, leaf}

pub with_arg : (old new : Command) (a : Arg) (app : App) (rule : Rule) → Is app old → IsRead rule a → AddsArg old a new
    → Is (with_rule app rule) new
with_arg old new a app rule is read added = (
  added.shape read.1 ∙ ap₂ with_rule is.0 read.0,
  added.globals ∙ ap₂ (λ (x y : Bool). x || y) is.1 read.1,
)

pub with_sub : (old new sub : Command) (app : App) (s : Shape) → Is app old → Is (leaf s) sub
    → AddsSubcommand old sub new → Is (with_subcommand app s) new
with_sub old new sub app s is read added = (
  added.shape read.1 ∙ ap₂ with_subcommand is.0 (ap (λ (a : App). a.top) read.0),
  added.globals ∙ ap₂ (λ (x y : Bool). x || y) is.1 read.1,
)
