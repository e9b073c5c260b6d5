-- RULES 24.6: the listing of a record by a lookup, with no table.
use Rattle.std.specs.Prelude.{ℕ, List, [], ◌∷◌, length, Option}
use Rattle.fields.specs.Answer.{Outcome, gives, refuses}
use Rattle.fields.specs.declared.RecordNumber.{RecordNumber}
use Rattle.record.specs.Open.{Lent, open_in}
use Rattle.items.specs.State.{fresh_of}
use Rattle.lines.specs.Listing.{walk_lines}
use Rattle.lines.specs.declared.line.Line.{Line}
use Rattle.lines.specs.declared.line.Line.TheVariants as line

module _ (room : ℕ) (look : RecordNumber → Option (List ℕ)) where
  unfoldable pub opened_by : Outcome Lent → List Line
  opened_by (gives b) = walk_lines room b.bytes b.number look 0 (fresh_of b.bytes)
  opened_by (refuses r) = line.Stopped r.cause 0 ∷ []

  -- a record's listing, where records of the volume have this size
  unfoldable pub listing_by : ℕ → List ℕ → RecordNumber → List Line
  listing_by size s n = line.Record n (length s) ∷ opened_by (open_in s n size)
