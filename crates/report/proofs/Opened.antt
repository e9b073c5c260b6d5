-- A record that was opened, told by its header and its attributes.
use Rattle.std.proofs.Common.{ℕ, ◌≡◌, List, ◌∷◌, length, ap, ◌∙◌}
use Rattle.fields.specs.Answer.{Outcome, gives}
use Rattle.fields.specs.declared.RecordNumber.{RecordNumber}
use Rattle.record.specs.Header.{header_of}
use Rattle.record.specs.Open.{lent, open_of}
use Rattle.record.specs.Walk.{attributes_of}
use Rattle.record.specs.declared.layout.Attribute.{Attribute}
use Rattle.record.specs.declared.layout.RecordHeader.{RecordHeader}
use Rattle.lines.specs.declared.line.Line.TheVariants as listing
use Rattle.report.specs.Record.{walk_lines, record_lines, record_report}
use Rattle.report.specs.declared.line.Line.TheVariants as line

pub opened_lines : (s : List ℕ) (n : RecordNumber) (r : List ℕ) (m : RecordNumber) (h : RecordHeader)
    (hs : List (Outcome Attribute)) → gives (lent r m) ≡ open_of s n → h ≡ header_of r → hs ≡ attributes_of r m
    → line.Listed (listing.Record m (length r)) ∷ line.Header h ∷ walk_lines r m hs ≡ record_report s n
unfolding record_lines
opened_lines s n r m h hs e p q =
    ap (λ (x : RecordHeader). line.Listed (listing.Record m (length r)) ∷ line.Header x ∷ walk_lines r m hs) p
    ∙ ap (λ (xs : List (Outcome Attribute)). line.Listed (listing.Record m (length r)) ∷ line.Header (header_of r)
    ∷ walk_lines r m xs) q
    ∙ ap record_lines e
