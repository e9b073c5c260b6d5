use Rattle.bound.proofs.Calls.{every_run, every_way}
use Rattle.bound.proofs.Bytes.{every_bytes}
use Rattle.bound.proofs.calls_are_counted.Goals as goal

pub returns-clause-run : goal.returns-clause-run
returns-clause-run c = every_run

pub returns-clause-way : goal.returns-clause-way
returns-clause-way c = every_way

pub returns-clause-bytes : goal.returns-clause-bytes
returns-clause-bytes c = every_bytes
