-- What the check of an extract's sizes shows.
use Rattle.std.proofs.Common.{ℕ, ◌*◌, ◌/◌, ◌%◌, ◌≤◌, ◌≡◌, true, List, length, arith}
use Rattle.std.proofs.Math.Nat.{mul-div-le, mul-le-mul_right}
use Rattle.std.proofs.lemmas.Bool.Decides.{nat_tests}
use Rattle.extract.specs.Size.{good_size, whole_records}

pub record Sized (size : ℕ) (s : List ℕ) : Type 0 where
  pub least : 512 ≤ size
  pub most : size ≤ 4096
  pub steps : size % 512 ≡ 0
  pub whole : length s % size ≡ 0

pub good_sized : (size : ℕ) → good_size size ≡ true → (512 ≤ size) × (size ≤ 4096)
unfolding good_size
good_sized size e = (grind (arith, nat_tests), grind (arith, nat_tests))

pub sized : (size : ℕ) (s : List ℕ) → whole_records size s ≡ true → Sized size s
unfolding good_size whole_records
sized size s e = record {
  least = grind (arith, nat_tests);
  most = grind (arith, nat_tests);
  steps = grind (arith, nat_tests);
  whole = grind (arith, nat_tests);
}

-- a record takes 512 bytes at least
pub few_records : (size : ℕ) (s : List ℕ) → whole_records size s ≡ true → 512 * (length s / size) ≤ length s
few_records size s e =
    let x = sized size s e in let y = mul-le-mul_right (length s / size) x.least in
    omega (arith, mul-div-le (length s) size)
