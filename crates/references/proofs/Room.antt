-- A list lies inside the attribute that opens it, and an entry inside its list.
use Rattle.std.proofs.Common.{ℕ, ◌+◌, ◌≤◌, ◌≡◌, List, sym, arith}
use Rattle.std.proofs.lemmas.Bool.Decides.{nat_tests}
use Rattle.fields.specs.Answer.{gives}
use Rattle.fields.specs.declared.RecordNumber.{RecordNumber}
use Rattle.fields.proofs.Answers.{refused-given, back}
use Rattle.list.specs.Entry.{entry_of}
use Rattle.list.specs.declared.Entry.{Entry}
use Rattle.list.proofs.Given as entries
use Rattle.record.specs.View.{piece_of}
use Rattle.record.specs.Value.{full_in, resident_in, list_after, list_in}
use Rattle.record.specs.declared.layout.Attribute.{Attribute}
use Rattle.record.specs.declared.layout.FullHeader.{FullHeader}
use Rattle.record.specs.declared.layout.FullHeader.TheVariants as header
use Rattle.record.specs.declared.layout.Span.{Span}
use Rattle.items.specs.State.{list_at, rest_of}
use Rattle.items.proofs.Steps.{entry_room}

pub record Within (h : Attribute) (p : Span) : Type 0 where
  pub least : h.offset ≤ p.from
  pub most : p.from + p.bytes ≤ h.offset + h.length

module _ (s : List ℕ) (n : RecordNumber) (h : Attribute) where
  within_after : (f : FullHeader) (p : Span) → list_after s n h f ≡ gives p → Within h p
  unfolding list_after resident_in piece_of
  within_after (header.Resident f) p e = record { least = grind (arith, nat_tests); most = grind (arith, nat_tests) }
  within_after (header.NonResident f) p e = absurd (refused-given e)

  pub list_within : (p : Span) → gives p ≡ list_in s n h → Within h p
  unfolding list_in
  list_within p e = let t = back (full_in s n h) (list_after s n h) p (sym e) in within_after t.first p t.next

pub record Takes (to at by : ℕ) : Type 0 where
  pub least : 26 ≤ by
  pub most : at + by ≤ to

pub entry_takes : (s : List ℕ) (n : RecordNumber) (to at : ℕ) (e : Entry)
    → gives e ≡ entry_of (rest_of s (list_at at to)) n at → Takes to at e.length
entry_takes s n to at e g = record {
  least = (entries.given (rest_of s (list_at at to)) n at e (sym g)).least;
  most = (entry_room s n (list_at at to) e g).most;
}
