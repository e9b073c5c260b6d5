-- What an outcome tells of an input: how its listing ended, or that there was no byte.
use Rattle.std.specs.Prelude.{◌≡◌, ◌≢◌, ℕ, List, [], Some}
use Rattle.lines.specs.declared.line.Line.{Line}
use Rattle.lines.specs.Listing.{most_parts, listing_of}
use Rattle.lines.specs.Ending.{ending_of}
use Rattle.listing.specs.declared.outcome.Outcome.{Outcome}
use Rattle.listing.specs.declared.outcome.Outcome.TheVariants.{Listed, EmptyInput}

abbrev pub lines_of : List ℕ → List Line
lines_of input = listing_of most_parts input

abbrev pub Tells : List ℕ → Outcome → Type 0
Tells input (Listed e) = (ending_of (lines_of input) ≡ Some e) × (input ≢ [])
Tells input EmptyInput = input ≡ []
