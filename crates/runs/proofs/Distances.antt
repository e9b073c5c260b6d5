-- Distances of w bytes: each that fits leads back to its start, and each number is the distance to where it leads.
use Rattle.std.proofs.Common.{ℕ, ◌^◌, ◌<◌, arith}
use Rattle.std.proofs.lemmas.Bool.Decides.{nat_tests}
use Rattle.runs.specs.Run.{start_of}
use Rattle.runs.specs.Spelled.{distance, Reaches}
use Rattle.runs.specs.Laws.{DistancesLeadBack, StartsLieSoFar}

pub lead-back : DistancesLeadBack
unfolding start_of distance
lead-back w last start r m = let a = r.ahead in let b = r.back in grind (arith, nat_tests)

pub lie-so-far : StartsLieSoFar
unfolding start_of distance
lie-so-far w d last start l e =
    record {
      reaches = record { ahead = grind (arith, nat_tests); back = grind (arith, nat_tests) };
      distance = grind (arith, nat_tests);
      ranges = grind (arith, nat_tests);
    }

-- a distance that w bytes reach is one of their numbers
pub reached : (w last start : ℕ) → Reaches w last start → distance w last start < 256 ^ w
unfolding distance
reached w last start r = let a = r.ahead in let b = r.back in grind (arith, nat_tests)
