-- What a good length is: 64 to 4,096.
use Rattle.std.proofs.Common.{ℕ, ◌≤◌, ◌≡◌, true, arith}
use Rattle.std.proofs.lemmas.Bool.Decides.{nat_tests}
use Rattle.fields.specs.Length.{good_length}

pub record Sized (m : ℕ) : Type 0 where
  pub least : 64 ≤ m
  pub most : m ≤ 4096

pub good_sized : (m : ℕ) → good_length m ≡ true → Sized m
unfolding good_length
good_sized m e = record { least = grind (arith, nat_tests); most = grind (arith, nat_tests) }
