-- The worst so far is none of a command line that is wrong.
use Rattle.std.specs.Prelude.{◌≤◌}
use Rattle.command.specs.Status.{code_of}
use Rattle.command.specs.declared.status.Status.TheVariants.{Unreadable}
use Rattle.nomutanku.proofs.door.list_all.Given as goal

abbrev pub invariant-loop : goal.invariant-loop
invariant-loop g l = code_of l.worst ≤ code_of Unreadable
