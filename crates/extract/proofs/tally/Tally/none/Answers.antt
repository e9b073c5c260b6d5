use Rattle.std.proofs.Common.{ℕ, ◌≡◌, [], refl, ap}
use Rattle.std.specs.Prelude.{Option, Some, None}
use Rattle.fields.specs.declared.RecordNumber.{RecordNumber}
use Rattle.extract.specs.Base.{row_of, base_in}
use Rattle.extract.specs.Told.{tally_below}
use Rattle.extract.specs.Records.{rows_below, left_below, refused_below, first_refused_below}
use Rattle.extract.specs.Extracted.{late_in}
use Rattle.extract.proofs.tally.Tally.none.Goals as goal

no_base : (o : Option RecordNumber) → 0 ≡ base_in o []
unfolding row_of
no_base None = refl
no_base (Some n) = refl

pub returns : goal.returns
unfolding rows_below left_below refused_below first_refused_below late_in
returns c = λ x. ap (λ (n : ℕ). record (tally_below x 0) { base = n }) (no_base x.base)
