use Rattle.std.proofs.Common.{ℕ, ◌≤◌, ◌≡◌, refl, ap, arith}
use Rattle.std.proofs.Math.Nat.{mul-le-mul_left}
use Rattle.std.specs.Prelude.{min}
use Rattle.std.proofs.lemmas.Bool.Decides.{nat_tests}
use Rattle.fields.specs.Answer.{Outcome, gives, refuses, ◌⟫◌}
use Rattle.table.specs.Check.{most_rows}
use Rattle.written.specs.Layout.{table_length}
use Rattle.written.specs.Refused.{room_checked}
use Rattle.extract.specs.Records.{record_count}
use Rattle.extract.specs.Extracted.{answer_of, extract_of, room_of}
use Rattle.extract.specs.declared.Extract.{Extract}
use Rattle.extract.specs.declared.tally.Extracted.{Extracted}
use Rattle.extract.proofs.Fits.{Reported, answered}
use Rattle.extract.proofs.Counts.{counts_below}
use Rattle.extract.proofs.laws.rooms_are_enough.Goals as goal

room_passes : (size k m : ℕ) → table_length size k ≤ m → room_checked size k m ≡ gives tt
unfolding room_checked
room_passes size k m l = grind (arith, nat_tests)

room_enough : (x : Extract) (m : ℕ) (r : Extracted) → room_of x ≤ m → Reported x r
    → room_checked x.size r.written m ≡ gives tt
room_enough x m r l s =
    let a = counts_below x (record_count x) in
    let b = s.few in
    let c = ap (λ (y : Extracted). y.written) s.is in
    let d : r.written ≤ min (record_count x) most_rows = omega arith in
    let e = mul-le-mul_left x.size d in
    room_passes x.size r.written m (omega arith)

behind : (x : Extract) (m : ℕ) (a : Outcome Extracted)
    → ((r : Extracted) → a ≡ gives r → room_checked x.size r.written m ≡ gives tt)
    → (a ⟫ λ r. room_checked x.size r.written m ⟫ λ _. gives r) ≡ a
behind x m (gives r) h = ap (λ (o : Outcome (Unit {0})). o ⟫ λ _. gives r) (h r refl)
behind x m (refuses f) h = refl

pub returns : goal.returns
unfolding extract_of
returns c = λ x m l. behind x m (answer_of x) (λ r e. room_enough x m r l (answered x r e))
