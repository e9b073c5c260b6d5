-- A run that is given takes two bytes at least, and lies in the bytes that are left.
use Rattle.std.proofs.Common.{ℕ, ◌≤◌, ◌≡◌, List, length, arith}
use Rattle.std.proofs.lemmas.Bool.Decides.{nat_tests}
use Rattle.fields.specs.Answer.{gives}
use Rattle.fields.specs.declared.RecordNumber.{RecordNumber}
use Rattle.runs.specs.Run.{head, run_size, run_of}
use Rattle.runs.specs.declared.run.Run.{Run}
use Rattle.runs.specs.declared.run.Carried.{Carried}

pub record Lies (rest : List ℕ) : Type 0 where
  pub least : 2 ≤ run_size (head rest)
  pub most : run_size (head rest) ≤ length rest

pub of-run : (rest : List ℕ) (c : Carried) (file : RecordNumber) (place : ℕ) (r : Run)
    → run_of rest c file place ≡ gives r → Lies rest
unfolding run_of
of-run rest c file place r e = record { least = grind (arith, nat_tests); most = grind (arith, nat_tests) }
