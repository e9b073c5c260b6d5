-- What the front of a buffer has is the table that was written.
use Rattle.std.specs.Prelude.{ℕ, ◌≡◌, ◌+◌, ◌≤◌, List, [], ◌∷◌, ◌++◌, length, take}
use Rattle.std.specs.Borrow.{Bor}
use Rattle.std.proofs.Common.{arith, refl, sym, ap, subst, length-append}
use Rattle.std.proofs.lemmas.List.{take_at}
use Rattle.fields.specs.Answer.{gives}
use Rattle.fields.specs.declared.RecordNumber.{RecordNumber}
use Rattle.extract.specs.Extracted.{table_of_extract, extract_of}
use Rattle.extract.specs.Laws.{LengthsAreTold}
use Rattle.extract.specs.declared.Extract.{Extract}
use Rattle.extract.specs.declared.numbers.Numbers.{Numbers}
use Rattle.extract.specs.declared.numbers.Numbers.TheVariants as numbers
use Rattle.extract.specs.declared.tally.Extracted.{Extracted}
use Rattle.mft.specs.Made.{AreNumbers}

module _ (lengths : LengthsAreTold) (x : Extract) (m : ℕ) (r : Extracted) (given : extract_of x m ≡ gives r) where
  pub exact : (rest : List ℕ) → take r.length (table_of_extract x ++ rest) ≡ table_of_extract x
  exact rest =
      let long : length (table_of_extract x ++ []) ≡ r.length + 0 = lengths x m r [] given in
      let same : length (table_of_extract x) ≡ r.length = omega (arith, length-append (table_of_extract x) []) in
      take_at (table_of_extract x) rest r.length same

  pub within : (rest table : List ℕ) → table ≡ table_of_extract x ++ rest → r.length ≤ length table
  within rest table is =
      let long : length (table_of_extract x ++ rest) ≡ r.length + length rest = lengths x m r rest given in
      let same : length table ≡ length (table_of_extract x ++ rest) = ap length is in
      omega arith

-- the numbers of a single record, and of those that were chosen
pub from : (k : Numbers) (n : RecordNumber) → k ≡ numbers.From n → AreNumbers k (n ∷ [])
from k n e = subst (λ (j : Numbers). AreNumbers j (n ∷ [])) (sym e) refl

pub listed : (k : Numbers) (ns : Bor (List RecordNumber)) → k ≡ numbers.Listed ns → AreNumbers k ns.now
listed k ns e = subst (λ (j : Numbers). AreNumbers j ns.now) (sym e) refl
